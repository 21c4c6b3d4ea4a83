-- The whole text of a book whose tables are those of a taken one: how long it is, and that both parts, written one after the other,
-- are it. Assumes nothing.
use mathlib.Core.Path.{◌≡◌, sym, ap, ◌∙◌, subst}
use mathlib.Core.Bool.{Bool, true, false}
use Prim.Native.Nat.{ℕ, ◌+◌, ◌≤◌}
use native.Mathlib.Nat.{zero-add}
use native.Mathlib.Omega.{arith}
use mathlib.Core.List.{List, [], ◌∷◌, ◌++◌, map}
use lib.ListN.{length, drop, length-append, length-map}
use lib.Seq.{sets, sets-eq}
use Rattle.line.specs.declared.Line.{Line}
use Rattle.line.specs.declared.Line.TheVariants as line
use Rattle.line.specs.Written.{Writable}
use Rattle.books.specs.Book.{Message, Placement, Route, identifiers, numbers, all_placements}
use Rattle.record.specs.Limits.{message_limit, signal_limit}
use Rattle.books.specs.Words.{placement_starts, messages_of, messages_taken_spec, froms, tos, routes_of}
use Rattle.books.proofs.Building.{good_built}
use Rattle.books.proofs.Columns.{taken_stands}
use Rattle.reading.specs.Written.{route_line, message_lines, book_lines, book_text, lines_text}
use Rattle.reading.proofs.Texts.{AllWritable, messages_writable}
use Rattle.chains.specs.Tells.{Tells}
use Rattle.route_tables.specs.Tables.{RoutesTaken}
use Rattle.route_tables.proofs.Shown.{few_shown}
use Rattle.printing.specs.Put.{Put}
use Rattle.printing.proofs.Puts.{and_then}
use Rattle.line_writer.specs.Fitting.{FewDigits, AllFewDigits, LinesFit}
use Rattle.reading.proofs.LineLengths.{lines_text_append}
use Rattle.book_writer.specs.Answers.{text_of, TablesTaken, WriteBy, writes}
use Rattle.reading.proofs.TextLengths.{signal_bytes, route_bytes, signals_few, routes_few}
use Rattle.book_writer.specs.ShownLines.{signal_line_of, route_line_of, pair_lines}
use Rattle.book_writer.proofs.Pairs.{lines_of_signals, lines_of_routes}
use Rattle.book_writer.proofs.Shown.{limits}

-- where the messages are taken, the test of the routes tells of all tables
pub all_told : (w : List ℕ) → messages_taken_spec w ≡ true → (r : Bool) → Tells (RoutesTaken w) r → Tells (TablesTaken w) r
all_told w m true t = record { messages = m; routes = t }
all_told w m false t = λ a. t a.routes

-- lines that have texts can be written, and R lines can in any case
digits_of : (l : Line) → Writable l → FewDigits l
digits_of (line.Message i) w = tt
digits_of (line.Signal n s) w = w
digits_of (line.Route a i b j) w = tt
digits_of line.IllFormed w = tt

all_digits : {ls : List Line} → AllWritable ls → AllFewDigits ls
all_digits AllWritable.nothing = AllFewDigits.nothing
all_digits (AllWritable.also {l} w a) = AllFewDigits.also (digits_of l w) (all_digits a)

route_digits : (rs : List Route) → AllFewDigits (map route_line rs)
route_digits [] = AllFewDigits.nothing
route_digits (r ∷ rs) = AllFewDigits.also {l = route_line r} tt (route_digits rs)

module _ (w : List ℕ) (t : TablesTaken w) where
  abbrev ps : List Placement
  ps = all_placements (messages_of w)

  abbrev pub head : List ℕ
  head = lines_text (message_lines (messages_of w))

  abbrev pub tail : List ℕ
  tail = lines_text (map route_line (routes_of w))

  -- how many there are of each kind
  pub messages_count : {is : List ℕ} → is ≡ identifiers (messages_of w) → (length is ≡ length (messages_of w)) × (length is ≤ message_limit)
  messages_count e =
      let n = ap length e ∙ length-map (messages_of w) (λ (m : Message). m.identifier) in
      (n, omega (arith, n, (limits w t.messages).few))

  pub signals_count : {ns : List ℕ} → ns ≡ numbers ps → length ns ≤ signal_limit
  signals_count e = omega (arith, ap length e ∙ length-map ps (λ (p : Placement). p.number), (limits w t.messages).room)

  pub routes_count : {fs : List ℕ} → fs ≡ froms (routes_of w) → length fs ≤ signal_limit
  routes_count e = omega (arith, ap length e ∙ length-map (routes_of w) (λ (r : Route). r.from), few_shown w)

  -- no sum of lengths is too large
  pub signals_sum : {ns ss : List ℕ} → ns ≡ numbers ps → ss ≡ placement_starts ps → {n : ℕ} → n ≡ length (lines_text (pair_lines signal_line_of ns ss)) → (n ≡ signal_bytes ps) × (n ≤ 3584)
  signals_sum e f s =
      let n = s ∙ ap (λ (l : List Line). length (lines_text l)) (lines_of_signals ps e f) in
      (n, omega (arith, n, signals_few ps, (limits w t.messages).room))

  pub routes_sum : {fs ts : List ℕ} → fs ≡ froms (routes_of w) → ts ≡ tos (routes_of w) → {n : ℕ} → n ≡ length (lines_text (pair_lines route_line_of fs ts))
      → (n ≡ route_bytes (routes_of w)) × (n ≤ 2048)
  routes_sum e f s =
      let n = s ∙ ap (λ (l : List Line). length (lines_text l)) (lines_of_routes (routes_of w) e f) in
      (n, omega (arith, n, routes_few (routes_of w), few_shown w))

  two_parts : text_of w ≡ head ++ tail
  unfolding book_text book_lines
  two_parts = lines_text_append (message_lines (messages_of w)) (map route_line (routes_of w))

  pub whole_long : length (text_of w) ≡ length head + length tail
  whole_long = ap length two_parts ∙ length-append head tail

  module _ (room : List ℕ) (h : length (text_of w) ≤ length room) where
    pub head_fits : LinesFit room 0 (message_lines (messages_of w))
    head_fits = record { digits = all_digits (messages_writable (good_built (messages_of w) (taken_stands w t.messages).1)); room = omega (arith, whole_long) }

    module _ {mid : List ℕ} {next : ℕ} (p : Put room 0 head mid next) (level : length mid ≡ length room) where
      -- wherever they end no later than the text
      pub tail_fits : {at : ℕ} → at + length tail ≤ length (text_of w) → LinesFit mid at (map route_line (routes_of w))
      tail_fits k = record { digits = route_digits (routes_of w); room = omega (arith, k, h, level) }

      pub ends_there : next + length tail ≡ length (text_of w)
      ends_there = omega (arith, whole_long, p.now_at)

      pub wrote : {new : List ℕ} {end : ℕ} → Put mid next tail new end → {n : ℕ} → n ≡ length (text_of w) → WriteBy w room 0 n new
      wrote {new} q {n} e =
          let f : new ≡ text_of w ++ drop (length (text_of w)) room =
          (and_then p q).now_there ∙ ap (sets room 0) (sym two_parts) ∙ sets-eq (text_of w) room 0 (rw zero-add h) ∙
          ap (λ (k : ℕ). text_of w ++ drop k room) (zero-add (length (text_of w))) in
          subst (λ (k : ℕ). WriteBy w room 0 k new) (sym e) (subst (WriteBy w room 0 (length (text_of w))) (sym f) (writes h))
