-- Each contract allows one outcome and no other. Of a column it is so where the lent words are as many as a book has, of `first` where its
-- `requires` holds. Assumes nothing.
use mathlib.Core.Path.{◌≡◌, refl}
use mathlib.Core.List.{List}
use Prim.Native.Nat.{ℕ, ◌+◌, ◌≤◌}
use native.Mathlib.Omega.{arith}
use base.Stored.{coded_ℕ, coded_list}
use lib.ListN.{length, take, drop, length-drop}
use lib.Seq.{length-take-le}
use Rattle.only.specs.Outcomes.{OneResult, OneContent, OneOutcome, result_is, content_is, outcome_is}
use Rattle.record.specs.Limits.{message_limit, signal_limit, route_limit}
use Rattle.record.specs.Place.{place_key}
use Rattle.record.specs.Columns.{book_words, ids_at, ends_at, numbers_at, starts_at, froms_at, tos_at, message_count_of, signal_count_of, route_count_of, ids_of, ends_of, numbers_of, starts_of, froms_of, tos_of, empty_book}
use Rattle.record.specs.contracts.message_count as message-count
use Rattle.record.specs.contracts.signal_count as signal-count
use Rattle.record.specs.contracts.route_count as route-count
use Rattle.record.specs.contracts.ids as ids
use Rattle.record.specs.contracts.ends as ends
use Rattle.record.specs.contracts.numbers as numbers
use Rattle.record.specs.contracts.starts as starts
use Rattle.record.specs.contracts.froms as froms
use Rattle.record.specs.contracts.tos as tos
use Rattle.record.specs.contracts.first as first
use Rattle.record.specs.contracts.clear as clear
use Rattle.record.specs.contracts.place as place

-- the words are as many as a book has; so each column is as long as it may be
abbrev Whole : List ℕ → Type 0
Whole w = length w ≡ book_words

column_long : (w : List ℕ) (at n : ℕ) → at + n ≤ book_words → Whole w → length (take n (drop at w)) ≡ n
column_long w at n h e = length-take-le n (drop at w) (omega (arith, length-drop at w))

module _ (M : Type 1) where
  pub one_message_count : OneResult M message-count.ended (λ _. message-count.clauses)
  one_message_count = result_is (λ c. message_count_of c.arguments.0.now) refl

  pub one_signal_count : OneResult M signal-count.ended (λ _. signal-count.clauses)
  one_signal_count = result_is (λ c. signal_count_of c.arguments.0.now) refl

  pub one_route_count : OneResult M route-count.ended (λ _. route-count.clauses)
  one_route_count = result_is (λ c. route_count_of c.arguments.0.now) refl

  pub one_ids : OneContent M ids.ended (λ _. ids.clauses) (λ c s. s) (λ c. Whole c.arguments.0.now)
  one_ids = content_is (λ c. ids_of c.arguments.0.now) (λ c. message_limit) (λ c. column_long c.arguments.0.now ids_at message_limit (omega arith)) refl

  pub one_ends : OneContent M ends.ended (λ _. ends.clauses) (λ c s. s) (λ c. Whole c.arguments.0.now)
  one_ends = content_is (λ c. ends_of c.arguments.0.now) (λ c. message_limit) (λ c. column_long c.arguments.0.now ends_at message_limit (omega arith)) refl

  pub one_numbers : OneContent M numbers.ended (λ _. numbers.clauses) (λ c s. s) (λ c. Whole c.arguments.0.now)
  one_numbers = content_is (λ c. numbers_of c.arguments.0.now) (λ c. signal_limit) (λ c. column_long c.arguments.0.now numbers_at signal_limit (omega arith)) refl

  pub one_starts : OneContent M starts.ended (λ _. starts.clauses) (λ c s. s) (λ c. Whole c.arguments.0.now)
  one_starts = content_is (λ c. starts_of c.arguments.0.now) (λ c. signal_limit) (λ c. column_long c.arguments.0.now starts_at signal_limit (omega arith)) refl

  pub one_froms : OneContent M froms.ended (λ _. froms.clauses) (λ c s. s) (λ c. Whole c.arguments.0.now)
  one_froms = content_is (λ c. froms_of c.arguments.0.now) (λ c. route_limit) (λ c. column_long c.arguments.0.now froms_at route_limit (omega arith)) refl

  pub one_tos : OneContent M tos.ended (λ _. tos.clauses) (λ c s. s) (λ c. Whole c.arguments.0.now)
  one_tos = content_is (λ c. tos_of c.arguments.0.now) (λ c. route_limit) (λ c. column_long c.arguments.0.now tos_at route_limit (omega arith)) refl

  pub one_first : OneContent M first.ended (λ _. first.clauses) (λ c s. s) (λ c. c.arguments.1.0 ≤ length c.arguments.0.now)
  one_first = content_is (λ c. take c.arguments.1.0 c.arguments.0.now) (λ c. c.arguments.1.0) (λ c. length-take-le c.arguments.1.0 c.arguments.0.now) refl

  pub one_clear : OneOutcome M clear.ended (λ _. clear.clauses)
  one_clear = outcome_is (coded_list coded_ℕ) (λ c o. o.1.0) (λ c words. (tt, (words, tt))) (λ c o. refl) (λ c words. refl) (λ c. empty_book) refl

  pub one_place : OneResult M place.ended (λ _. place.clauses)
  one_place = result_is (λ c. place_key c.arguments.0 c.arguments.1.0) refl
