-- The words of a line stored in the words of a book make the words of the book with the line. Assumes nothing.
use mathlib.Core.Path.{◌≡◌, sym, ap, ◌∙◌, subst}
use mathlib.Core.List.{List, [], ◌∷◌, ◌++◌, map}
use Prim.Native.Nat.{ℕ, ◌+◌, ◌-◌, ◌<◌}
use native.Mathlib.Nat.{zero-add}
use native.Mathlib.Omega.{arith}
use lib.ListN.{length, set, length-append, length-map, length-set}
use Rattle.books.specs.Book.{Placement, Message, Route, Book, identifiers, numbers, all_placements, fresh, with_placement, in_last, with_message, with_route}
use Rattle.books.specs.Lines.{message_limit, signal_limit, route_limit}
use Rattle.books.specs.Words.{column, placement_starts, ends_after, id_column, end_column, number_column, start_column, from_column, to_column, words_of}
use Rattle.books.proofs.Ends.{map-append, in_last_law, last}
use Rattle.books.proofs.Columns.{length_column, length_ends, ids_long, ends_long, numbers_long, starts_long}
use Rattle.tables.specs.Adding.{Within}
use Rattle.tables.specs.Storing.{message_stored, signal_stored, route_stored}
use Rattle.tables.proofs.Flat.{words_flat, column_more, column_last, set_messages, set_signals, set_routes, set_ids, set_ends, set_numbers, set_starts, set_froms, set_tos}
use Rattle.tables.proofs.Longer.{ends_last, placements_stay, ends_more, identifiers_stay, placements_more}

-- a column of what f reads off each of a list, with one more
column_map {ℓ} : {A : Type ℓ} (k : ℕ) (f : A → ℕ) (l : List A) (x : A) → length l < k → set (column k (map f l)) (length l) (f x) ≡ column k (map f (l ++ (x ∷ [])))
column_map k f l x h =
    ap (λ (n : ℕ). set (column k (map f l)) n (f x)) (sym (length-map l f)) ∙
    column_more k (map f l) (f x) (omega (arith, length-map l f)) ∙
    ap (column k) (sym (map-append f l (x ∷ [])))

length_more {ℓ} : {A : Type ℓ} (l : List A) (x : A) → length (l ++ (x ∷ [])) ≡ length l + 1
length_more l x = length-append l (x ∷ [])

-- ---- a message

module _ (b : Book) (i : ℕ) (h : Within b) (room : length b.messages < message_limit) where
  ends_one_more : set (end_column b.messages) (length b.messages) (length (all_placements b.messages)) ≡ end_column (b.messages ++ (fresh i ∷ []))
  ends_one_more =
      ap (λ (n : ℕ). set (end_column b.messages) n (length (all_placements b.messages))) (sym (length_ends 0 b.messages)) ∙
      column_more message_limit (ends_after 0 b.messages) (length (all_placements b.messages)) (omega (arith, length_ends 0 b.messages)) ∙
      ap (column message_limit) (sym (ends_more b.messages i))

  pub message_stored_law : message_stored (words_of b) (length b.messages) i (length (all_placements b.messages)) ≡ words_of (with_message b i)
  message_stored_law =
      let n = length b.messages in
      let s = length (all_placements b.messages) in
      let r = length b.routes in
      let ids = id_column b.messages in
      let ends = end_column b.messages in
      let numbers' = number_column b.messages in
      let starts' = start_column b.messages in
      let froms = from_column b.routes in
      let tos = to_column b.routes in
      let li = ids_long b.messages h.messages h.signals in
      let le = ends_long b.messages h.messages h.signals in
      let one = set_ids n s r ids ends numbers' starts' froms tos n i (omega arith) in
      let two = set_ends n s r (set ids n i) ends numbers' starts' froms tos n s (length-set ids n i ∙ li) (omega arith) in
      let three = set_messages n s r (set ids n i) (set ends n s) numbers' starts' froms tos (n + 1) in
      let c : set ids n i ≡ id_column (b.messages ++ (fresh i ∷ [])) = column_map message_limit (λ (m : Message). m.identifier) b.messages (fresh i) room in
      let d : set ends n s ≡ end_column (b.messages ++ (fresh i ∷ [])) = ends_one_more in
      let p : all_placements (b.messages ++ (fresh i ∷ [])) ≡ all_placements b.messages = placements_stay b.messages i in
      let k : length (b.messages ++ (fresh i ∷ [])) ≡ n + 1 = length_more b.messages (fresh i) in
      cc (words_flat b, words_flat (with_message b i))

-- ---- a signal, in the last message

module _ (before : List Message) (m : Message) (rs : List Route) (p : Placement) (h : Within (record { messages = before ++ (m ∷ []); routes = rs }))
    (room : length (all_placements (before ++ (m ∷ []))) < signal_limit) where
  all_longer : length (all_placements (before ++ (with_placement m p ∷ []))) ≡ length (all_placements (before ++ (m ∷ []))) + 1
  all_longer = ap length (placements_more before m p) ∙ length_more (all_placements (before ++ (m ∷ []))) p

  ends_last_more : set (end_column (before ++ (m ∷ []))) (length (before ++ (m ∷ [])) - 1) (length (all_placements (before ++ (m ∷ []))) + 1) ≡ end_column (before ++ (with_placement m p ∷ []))
  ends_last_more =
      let s = length (all_placements (before ++ (m ∷ []))) in
      let at : length (before ++ (m ∷ [])) - 1 ≡ length (ends_after 0 before) = omega (arith, length_more before m, length_ends 0 before) in
      ap (λ (l : List ℕ). set (column message_limit l) (length (before ++ (m ∷ [])) - 1) (s + 1)) (ends_last 0 before m) ∙
      ap (λ (n : ℕ). set (column message_limit (ends_after 0 before ++ ((0 + s) ∷ []))) n (s + 1)) at ∙
      column_last message_limit (ends_after 0 before) (0 + s) (s + 1) ∙
      ap (λ (n : ℕ). column message_limit (ends_after 0 before ++ (n ∷ []))) (sym (zero-add (length (all_placements (before ++ (with_placement m p ∷ [])))) ∙ all_longer)) ∙
      ap (column message_limit) (sym (ends_last 0 before (with_placement m p)))

  lines_stored : signal_stored (words_of (record { messages = before ++ (m ∷ []); routes = rs })) (length (before ++ (m ∷ []))) (length (all_placements (before ++ (m ∷ [])))) p.number p.start
      ≡ words_of (record { messages = before ++ (with_placement m p ∷ []); routes = rs })
  lines_stored =
      let ms = before ++ (m ∷ []) in
      let ns = before ++ (with_placement m p ∷ []) in
      let n = length ms in
      let s = length (all_placements ms) in
      let r = length rs in
      let ids = id_column ms in
      let ends = end_column ms in
      let nums = number_column ms in
      let sts = start_column ms in
      let froms = from_column rs in
      let tos = to_column rs in
      let li = ids_long ms h.messages h.signals in
      let le = ends_long ms h.messages h.signals in
      let ln = numbers_long ms h.messages h.signals in
      let ls = starts_long ms h.messages h.signals in
      let nums' = set nums s p.number in
      let sts' = set sts s p.start in
      let one = set_numbers n s r ids ends nums sts froms tos s p.number li le (omega arith) in
      let two = set_starts n s r ids ends nums' sts froms tos s p.start li le (length-set nums s p.number ∙ ln) (omega arith) in
      let three = set_ends n s r ids ends nums' sts' froms tos (n - 1) (s + 1) li (omega (arith, length_more before m)) in
      let four = set_signals n s r ids (set ends (n - 1) (s + 1)) nums' sts' froms tos (s + 1) in
      let c : nums' ≡ column signal_limit (numbers (all_placements ms ++ (p ∷ []))) = column_map signal_limit (λ (q : Placement). q.number) (all_placements ms) p room in
      let d : sts' ≡ column signal_limit (placement_starts (all_placements ms ++ (p ∷ []))) = column_map signal_limit (λ (q : Placement). q.start) (all_placements ms) p room in
      let e : all_placements ns ≡ all_placements ms ++ (p ∷ []) = placements_more before m p in
      let f : set ends (n - 1) (s + 1) ≡ end_column ns = ends_last_more in
      let g : identifiers ns ≡ identifiers ms = identifiers_stay before m p in
      let k : length ns ≡ n = length_more before (with_placement m p) ∙ sym (length_more before m) in
      let l : length (all_placements ns) ≡ s + 1 = all_longer in
      cc (words_flat (record { messages = ms; routes = rs }), words_flat (record { messages = ns; routes = rs }))

-- the same, of a book with messages
abbrev Stores : Placement → List Route → List Message → Type 0
Stores p rs ms =
    signal_stored (words_of (record { messages = ms; routes = rs })) (length ms) (length (all_placements ms)) p.number p.start
    ≡ words_of (record { messages = in_last ms p; routes = rs })

pub signal_stored_law : (ms : List Message) (rs : List Route) (p : Placement) → Within (record { messages = ms; routes = rs }) → 0 < length ms → length (all_placements ms) < signal_limit → Stores p rs ms
signal_stored_law [] rs p h some room = absurd (omega arith)
signal_stored_law (x ∷ xs) rs p h some room =
    let l = last x xs in
    let ms = l.before ++ (l.last ∷ []) in
    let e : x ∷ xs ≡ ms = l.whole in
    let k : Within (record { messages = ms; routes = rs }) = subst (λ (ns : List Message). Within (record { messages = ns; routes = rs })) e h in
    let g : length (all_placements ms) < signal_limit = subst (λ (ns : List Message). length (all_placements ns) < signal_limit) e room in
    subst (Stores p rs) (sym e)
    (lines_stored l.before l.last rs p k g ∙
    ap (λ (ns : List Message). words_of (record { messages = ns; routes = rs })) (sym (in_last_law l.before l.last p)))

-- ---- a route

module _ (b : Book) (x : Route) (h : Within b) (room : length b.routes < route_limit) where
  pub route_stored_law : route_stored (words_of b) (length b.routes) x.from x.to ≡ words_of (with_route b x)
  route_stored_law =
      let n = length b.messages in
      let s = length (all_placements b.messages) in
      let rs = b.routes in
      let r = length b.routes in
      let ids = id_column b.messages in
      let ends = end_column b.messages in
      let nums = number_column b.messages in
      let sts = start_column b.messages in
      let froms = from_column b.routes in
      let tos = to_column b.routes in
      let li = ids_long b.messages h.messages h.signals in
      let le = ends_long b.messages h.messages h.signals in
      let ln = numbers_long b.messages h.messages h.signals in
      let ls = starts_long b.messages h.messages h.signals in
      let lf : length froms ≡ route_limit = length_column route_limit (map (λ (y : Route). y.from) rs) (omega (arith, length-map rs (λ (y : Route). y.from))) in
      let froms' = set froms r x.from in
      let tos' = set tos r x.to in
      let one = set_froms n s r ids ends nums sts froms tos r x.from li le ln ls (omega arith) in
      let two = set_tos n s r ids ends nums sts froms' tos r x.to li le ln ls (length-set froms r x.from ∙ lf) in
      let three = set_routes n s r ids ends nums sts froms' tos' (r + 1) in
      let c : froms' ≡ from_column (rs ++ (x ∷ [])) = column_map route_limit (λ (y : Route). y.from) rs x room in
      let d : tos' ≡ to_column (rs ++ (x ∷ [])) = column_map route_limit (λ (y : Route). y.to) rs x room in
      let k : length (rs ++ (x ∷ [])) ≡ r + 1 = length_more rs x in
      cc (words_flat b, words_flat (with_route b x))
