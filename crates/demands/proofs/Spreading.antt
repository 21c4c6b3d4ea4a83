-- Demand 3: from any valid place, given room enough, the spread by the words that the reader left of a taken text lists every place that a
-- chain of its R lines reaches, each once, nothing else; and it is refused with 62 exactly where there is less room. Assumes nothing.
use mathlib.Core.Path.{◌≡◌, refl, sym, ap, ◌∙◌, subst}
use mathlib.Core.Logic.{◌↔◌}
use Prim.Native.Nat.{ℕ, ◌≤◌}
use native.Mathlib.Omega.{arith}
use mathlib.Core.List.{List, Memᴰ}
use lib.ListN.{length, drop}
use lib.Seq.{take-append_seam, drop-append_seam}
use Rattle.record.specs.Place.{place_key}
use Rattle.chains.specs.Chain.{Chain}
use Rattle.lists.proofs.Pigeons.{pigeons}
use Rattle.answers.specs.Numbers.{taken}
use Rattle.books.specs.Book.{Route}
use Rattle.books.specs.Words.{words_of, routes_of}
use Rattle.books.proofs.RouteColumns.{shows_routes, words_routes}
use Rattle.books.proofs.Building.{built_good}
use Rattle.books.proofs.Columns.{within}
use Rattle.reading.specs.Taken.{froms, tos, SoundRoutes}
use Rattle.reading.proofs.Passing.{read_built}
use Rattle.reading.proofs.Counts.{text_routed}
use Rattle.route_tables.specs.Tables.{RoutesTaken, LeftOf}
use Rattle.route_tables.proofs.OneText.{text_routes_taken}
use Rattle.routes.specs.Answers.{IsPlace, spread_along, SpreadBy, no_place, no_room, spreads, SpreadAnswer, not_a_book, by_routes}
use Rattle.routes.specs.Listed.{Lists}
use Rattle.routes.proofs.Listed.{spread_lists}
use Rattle.book.specs.Answered.{Answered}
use Rattle.demands.specs.Text.{text_routes}
use Rattle.demands.specs.RLines.{text_r_lines, ListsPlaces, AllInLimits}
use Rattle.demands.specs.Spreads.{RoomEnough, RoomForFewer, Spreads}
use Rattle.demands.proofs.LineNumbers.{routes_of_text}
use Rattle.demands.proofs.Keys.{text_in_limits, many, keyed, unkeyed, ends}
use Rattle.demands.proofs.Taken.{left}

-- what lists the places that chains of routes reach lists those that chains of R lines reach
module _ (text : List ℕ) (limits : AllInLimits (text_r_lines text)) (bus identifier : ℕ) (p : IsPlace bus identifier) where
  reached : (q : ℕ) (c : List ℕ) → Chain (froms (text_routes text)) (tos (text_routes text)) (place_key bus identifier) c q
      → (l : List ℕ) → ListsPlaces (text_r_lines text) bus identifier l → Memᴰ q l
  reached q c w l h =
      let e = ends text limits (place_key bus identifier) c q w in
      subst (λ (x : ℕ). Memᴰ x l) (sym e.to)
      (h.every e.to_bus e.to_identifier c
      (unkeyed text limits bus identifier c e.to_bus e.to_identifier p.identified e.to_identified
      (subst (λ (x : ℕ). Chain (froms (text_routes text)) (tos (text_routes text)) (place_key bus identifier) c x) e.to w)))

  lists_lines : (l : List ℕ) → Lists (froms (text_routes text)) (tos (text_routes text)) (place_key bus identifier) l → ListsPlaces (text_r_lines text) bus identifier l
  lists_lines l h = record {
    every = λ b j c w. h.every (place_key b j) c (keyed text bus identifier c b j w);
    only = λ q m.
        let r = h.only q m in
        let e = ends text limits (place_key bus identifier) r.0 q r.1 in (
          e.to_bus,
          e.to_identifier,
          r.0,
          e.to,
          unkeyed text limits bus identifier r.0 e.to_bus e.to_identifier p.identified e.to_identified
              (subst (λ (x : ℕ). Chain (froms (text_routes text)) (tos (text_routes text)) (place_key bus identifier) r.0 x) e.to r.1),
        );
    once = h.once;
    few = omega (arith, h.few, many text);
  }

  -- every such list is as long as the spread
  module _ (sound : SoundRoutes (text_routes text)) where
    abbrev s : List ℕ
    s = spread_along (text_routes text) bus identifier

    listed : Lists (froms (text_routes text)) (tos (text_routes text)) (place_key bus identifier) s
    listed = spread_lists (text_routes text) sound bus identifier

    as_long : (l : List ℕ) → ListsPlaces (text_r_lines text) bus identifier l → length l ≡ length s
    as_long l h =
        let fewer = pigeons l s h.once (λ q m. let r = h.only q m in subst (λ (x : ℕ). Memᴰ x s) (sym r.3) (listed.every (place_key r.0 r.1) r.2 (keyed text bus identifier r.2 r.0 r.1 r.4))) in
        let more = pigeons s l listed.once (λ q m. let r = listed.only q m in reached q r.0 r.1 l h) in
        omega (arith, fewer, more)

    module _ (room : List ℕ) where
      enough_spreads : {why n : ℕ} {after : List ℕ} → RoomEnough (text_r_lines text) bus identifier room → SpreadBy (text_routes text) bus identifier room why n after → Spreads (text_r_lines text) bus identifier room why n after
      enough_spreads e (no_place x) = absurd (x p)
      enough_spreads e (no_room x l) = absurd (omega (arith, as_long e.places e.lists, e.fits))
      enough_spreads e (spreads x l) = record {
        not_refused = refl;
        lists = subst (ListsPlaces (text_r_lines text) bus identifier) (sym (take-append_seam s (drop (length s) room))) (lists_lines s listed);
        rest = drop-append_seam s (drop (length s) room);
      }

      refused_short : {why n : ℕ} {after : List ℕ} → why ≡ 62 → SpreadBy (text_routes text) bus identifier room why n after → RoomForFewer (text_r_lines text) bus identifier room
      refused_short e (no_place x) = absurd (x p)
      refused_short e (no_room x l) = record { places = s; lists = lists_lines s listed; short = l }
      refused_short e (spreads x l) = absurd (omega arith)

      short_refused : {why n : ℕ} {after : List ℕ} → RoomForFewer (text_r_lines text) bus identifier room → SpreadBy (text_routes text) bus identifier room why n after → why ≡ 62
      short_refused t (no_place x) = absurd (x p)
      short_refused t (no_room x l) = refl
      short_refused t (spreads x l) = absurd (omega (arith, as_long t.places t.lists, t.short))

-- by the words that the reader left
module _ (text : List ℕ) {m s r : ℕ} {w : List ℕ} (a : Answered text (taken m s r) w) where
  abbrev was : LeftOf text w
  was = left text a

  shows_text : routes_of w ≡ text_routes text
  shows_text =
      let t = was.taken in
      let l = within was.book.messages (built_good (read_built text t.read)) in
      let few = (text_routed text t.read).few in
      ap routes_of was.words ∙ shows_routes (words_of was.book) was.book.routes few (words_routes was.book l.few l.room few) ∙ routes_of_text text t.read

  sound_text : SoundRoutes (text_routes text)
  sound_text = subst SoundRoutes (routes_of_text text was.taken.read) was.taken.sound

  is_taken : RoutesTaken w
  is_taken = subst RoutesTaken (sym was.words) (text_routes_taken text was.book was.taken)

  limits : AllInLimits (text_r_lines text)
  limits = text_in_limits text was.taken.read

  module _ (bus identifier : ℕ) (p : IsPlace bus identifier) (room : List ℕ) {why n : ℕ} {after : List ℕ} (x : SpreadAnswer w bus identifier room why n after) where
    by_text : SpreadBy (text_routes text) bus identifier room why n after
    by_text = from x
      where
        from : {why n : ℕ} {after : List ℕ} → SpreadAnswer w bus identifier room why n after → SpreadBy (text_routes text) bus identifier room why n after
        from (not_a_book none) = absurd (none is_taken)
        from {why} {n} {after} (by_routes t b) = subst (λ (rs : List Route). SpreadBy rs bus identifier room why n after) shows_text b

    -- given room enough, the call lists every place that a chain reaches
    pub spread_of_taken : RoomEnough (text_r_lines text) bus identifier room → Spreads (text_r_lines text) bus identifier room why n after
    spread_of_taken e = enough_spreads text limits bus identifier p sound_text room e by_text

    -- 62 exactly where there is less
    pub refused_62 : (why ≡ 62) ↔ RoomForFewer (text_r_lines text) bus identifier room
    refused_62 = (λ e. refused_short text limits bus identifier p sound_text room e by_text, λ t. short_refused text limits bus identifier p sound_text room t by_text)

  -- room for as many entries as there are R lines is always enough
  pub routes_enough : (bus identifier : ℕ) → IsPlace bus identifier → (room : List ℕ) → length (text_r_lines text) ≤ length room → RoomEnough (text_r_lines text) bus identifier room
  routes_enough bus identifier p room h =
      let l = lists_lines text limits bus identifier p _ (spread_lists (text_routes text) sound_text bus identifier) in
      record { places = spread_along (text_routes text) bus identifier; lists = l; fits = omega (arith, l.few) }
