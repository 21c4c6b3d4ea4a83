-- What a call for a spread writes, where it doesn't refuse: every place that a chain reaches, each once, and nothing else.
-- Assumes nothing.
use mathlib.Core.Path.{◌≡◌, refl, sym, ap, ◌∙◌, subst}
use Prim.Native.Nat.{ℕ, ◌<◌}
use native.Mathlib.Omega.{arith}
use mathlib.Core.List.{List}
use lib.ListN.{length, get_or, take, drop, length-map}
use lib.Seq.{take-append_seam}
use Rattle.record.specs.Place.{place_key}
use Rattle.chains.specs.Chain.{IsSound}
use Rattle.chains.proofs.Spreads.{chain_spread, spread_chain, spread_once, spread_few, no_routes}
use Rattle.books.specs.Book.{Route}
use Rattle.books.specs.Words.{froms, tos}
use Rattle.routes.specs.Answers.{spread_along, SpreadBy, no_place, no_room, spreads}
use Rattle.routes.specs.Listed.{Lists}

module _ (rs : List Route) (sound : IsSound (froms rs) (tos rs)) (bus identifier : ℕ) where
  -- the spread lists what chains reach
  pub spread_lists : Lists (froms rs) (tos rs) (place_key bus identifier) (spread_along rs bus identifier)
  spread_lists = record {
    every = λ q c k. chain_spread (froms rs) (tos rs) sound.loop_free (place_key bus identifier) q c k;
    only = spread_chain (froms rs) (tos rs) (place_key bus identifier);
    once = spread_once (froms rs) (tos rs) sound.loop_free sound.single (place_key bus identifier);
    few = spread_few (froms rs) (tos rs) sound.loop_free sound.single
        (length-map rs (λ (r : Route). r.from) ∙ sym (length-map rs (λ (r : Route). r.to))) (place_key bus identifier);
  }

  module _ (room : List ℕ) where
    -- an answer that refuses nothing counts the spread, and has it at the front
    pub front_of : {why n : ℕ} {after : List ℕ} → SpreadBy rs bus identifier room why n after → why ≡ 0 → (n ≡ length (spread_along rs bus identifier)) × (take n after ≡ spread_along rs bus identifier)
    front_of (no_place x) e = absurd (omega arith)
    front_of (no_room p l) e = absurd (omega arith)
    front_of (spreads p l) e = (refl, take-append_seam (spread_along rs bus identifier) (drop (length (spread_along rs bus identifier)) room))

    pub listed : {why n : ℕ} {after : List ℕ} → SpreadBy rs bus identifier room why n after → why ≡ 0 → Lists (froms rs) (tos rs) (place_key bus identifier) (take n after)
    listed a e = subst (Lists (froms rs) (tos rs) (place_key bus identifier)) (sym (front_of a e).1) spread_lists

    -- a place without routes has an empty spread
    pub empty : {why n : ℕ} {after : List ℕ} → SpreadBy rs bus identifier room why n after → why ≡ 0
        → ((j : ℕ) → j < length (froms rs) → get_or (froms rs) j 0 ≡ place_key bus identifier → ⊥) → n ≡ 0
    empty a e none = (front_of a e).0 ∙ ap length (no_routes (froms rs) (tos rs) sound.loop_free (place_key bus identifier) none)
