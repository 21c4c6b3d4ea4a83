-- A walk along the columns of messages and of all their signals, a message at a time. Assumes nothing.
use mathlib.Core.Path.{◌≡◌, refl, sym, ap, ◌∙◌, subst}
use Prim.Native.Nat.{ℕ, ◌+◌, ◌-◌, ◌≤◌}
use native.Mathlib.Omega.{arith}
use mathlib.Core.List.{List, [], ◌∷◌, ◌++◌, map}
use lib.ListN.{length, get_or, take, drop, length-append, length-map, length-drop}
use Rattle.std.proofs.lemmas.List.{take-take, take-map, take-append-drop, append_assoc}
use mathlib.Core.Logic.{◌⊎◌, inl, inr}
use lib.Seq.{take_at, drop_at, drop-drop}
use Rattle.line.specs.declared.Line.{Line}
use Rattle.line.specs.declared.Line.TheVariants as line
use Rattle.books.specs.Book.{Message, Placement, identifiers, numbers, all_placements}
use Rattle.books.specs.Words.{placement_starts, ends_after}
use Rattle.books.proofs.Columns.{length_ends}
use Rattle.books.proofs.Ends.{map-append}
use Rattle.reading.specs.Written.{signal_line, message_lines, lines_text}
use Rattle.line_writer.specs.Fitting.{LinesFit}
use Rattle.line_writer.proofs.Left.{LinesLeft, all_left, first_fit, lines_put, none_left}
use Rattle.printing.specs.Put.{Put}
use Rattle.book_writer.specs.ShownLines.{signal_line_of, pair_lines}
use Rattle.book_writer.proofs.Pairs.{lines_of_signals}

-- the messages whose identifiers and ends are left, and whose signals begin at `begin`, are left to write
pub record MessagesLeft (old : List ℕ) (all : List Line) (ns ss out : List ℕ) (next begin : ℕ) (is' es' : List ℕ) : Type 0 where
  pub messages : List Message
  pub lines : LinesLeft old 0 all out next (message_lines messages)
  pub ids_left : is' ≡ identifiers messages
  pub ends_left : es' ≡ ends_after begin messages
  pub numbers_left : drop begin ns ≡ numbers (all_placements messages)
  pub starts_left : drop begin ss ≡ placement_starts (all_placements messages)
  pub within : begin ≤ length ns

pub messages_left : (ms : List Message) {out is' es' ns ss : List ℕ} → LinesFit out 0 (message_lines ms) → is' ≡ identifiers ms → es' ≡ ends_after 0 ms → ns ≡ numbers (all_placements ms)
    → ss ≡ placement_starts (all_placements ms) → MessagesLeft out (message_lines ms) ns ss out 0 0 is' es'
messages_left ms f i e n s = record { messages = ms; lines = all_left f; ids_left = i; ends_left = e; numbers_left = n; starts_left = s; within = omega arith }

-- the columns of the same messages are of one length
pub columns_level : (ms : List Message) {is es : List ℕ} → is ≡ identifiers ms → es ≡ ends_after 0 ms → length es ≡ length is
columns_level ms i e = ap length e ∙ length_ends 0 ms ∙ sym (ap length i ∙ length-map ms (λ (m : Message). m.identifier))

-- the first of them, which these words say, its signals from `begin` on, and those after it
pub record NextMessage (old : List ℕ) (all : List Line) (ns ss out : List ℕ) (next begin id end : ℕ) (is' es' : List ℕ) : Type 0 where
  pub placed : List Placement
  pub later : List Message
  pub lines : LinesLeft old 0 all out next (line.Message id ∷ (map signal_line placed ++ message_lines later))
  pub end_is : end ≡ begin + length placed
  pub fits : begin + length placed ≤ length ns
  pub numbers_are : take (length placed) (drop begin ns) ≡ numbers placed
  pub starts_are : take (length placed) (drop begin ss) ≡ placement_starts placed
  pub ids_on : is' ≡ identifiers later
  pub ends_on : es' ≡ ends_after (begin + length placed) later
  pub numbers_on : drop (begin + length placed) ns ≡ numbers (all_placements later)
  pub starts_on : drop (begin + length placed) ss ≡ placement_starts (all_placements later)

no_lines : message_lines [] ≡ []
unfolding message_lines
no_lines = refl

-- a list whose first entry, and whose rest, are known
parts_of : {x y : ℕ} {xs ys : List ℕ} → x ∷ xs ≡ y ∷ ys → (x ≡ y) × (xs ≡ ys)
parts_of e = (ap (λ (t : List ℕ). get_or t 0 0) e, ap (drop 1) e)

-- a column of signals from `begin` on, of those of one message and those after
module _ (l : List ℕ) (begin : ℕ) (f : Placement → ℕ) (ps qs : List Placement) (e : drop begin l ≡ map f (ps ++ qs)) where
  parted : drop begin l ≡ map f ps ++ map f qs
  parted = e ∙ map-append f ps qs

  own : take (length ps) (drop begin l) ≡ map f ps
  own = ap (take (length ps)) parted ∙ take_at (map f ps) (map f qs) (length ps) (length-map ps f)

  after : drop (begin + length ps) l ≡ map f qs
  after = sym (drop-drop (length ps) begin l) ∙ ap (drop (length ps)) parted ∙ drop_at (map f ps) (map f qs) (length ps) (length-map ps f)

  long : begin ≤ length l → begin + length ps ≤ length l
  long h = omega (arith, ap length parted, length-append (map f ps) (map f qs), length-map ps f, length-drop begin l)

-- of messages that are not empty, the first, with what the columns have of it
module _ {old : List ℕ} {all : List Line} {ns ss out : List ℕ} {next begin id end : ℕ} {is' es' : List ℕ} (m : Message) (ms : List Message) where
  first_of : LinesLeft old 0 all out next (message_lines (m ∷ ms)) → id ∷ is' ≡ identifiers (m ∷ ms) → end ∷ es' ≡ ends_after begin (m ∷ ms)
      → drop begin ns ≡ numbers (all_placements (m ∷ ms)) → drop begin ss ≡ placement_starts (all_placements (m ∷ ms)) → begin ≤ length ns
      → NextMessage old all ns ss out next begin id end is' es'
  unfolding message_lines ends_after all_placements
  first_of l a b c d within =
      let ids = parts_of a in
      let ends = parts_of b in
      record {
        placed = m.placements;
        later = ms;
        lines = subst (λ (k : ℕ). LinesLeft old 0 all out next (line.Message k ∷ (map signal_line m.placements ++ message_lines ms))) (sym ids.0) l;
        end_is = ends.0;
        fits = long ns begin (λ (p : Placement). p.number) m.placements (all_placements ms) c within;
        numbers_are = own ns begin (λ (p : Placement). p.number) m.placements (all_placements ms) c;
        starts_are = own ss begin (λ (p : Placement). p.start) m.placements (all_placements ms) d;
        ids_on = ids.1;
        ends_on = ends.1;
        numbers_on = after ns begin (λ (p : Placement). p.number) m.placements (all_placements ms) c;
        starts_on = after ss begin (λ (p : Placement). p.start) m.placements (all_placements ms) d;
      }

module _ {old : List ℕ} {all : List Line} {ns ss out : List ℕ} {next begin : ℕ} {is' es' : List ℕ} where
  pub next_message : {id end : ℕ} {is'' es'' : List ℕ} → (is' ≡ id ∷ is'') × (es' ≡ end ∷ es'') → MessagesLeft old all ns ss out next begin is' es'
      → NextMessage old all ns ss out next begin id end is'' es''
  next_message {id} {end} {is''} {es''} e x = go x.messages x.lines (sym e.0 ∙ x.ids_left) (sym e.1 ∙ x.ends_left) x.numbers_left x.starts_left
    where
      go : (ms : List Message) → LinesLeft old 0 all out next (message_lines ms) → id ∷ is'' ≡ identifiers ms → end ∷ es'' ≡ ends_after begin ms
          → drop begin ns ≡ numbers (all_placements ms) → drop begin ss ≡ placement_starts (all_placements ms) → NextMessage old all ns ss out next begin id end is'' es''
      go [] l a b c d = absurd (omega (arith, ap length a))
      go (m ∷ ms) l a b c d = first_of m ms l a b c d x.within

  -- none is left where a column ends
  pub all_messages : (is' ≡ []) ⊎ (es' ≡ []) → MessagesLeft old all ns ss out next begin is' es' → Put old 0 (lines_text all) out next
  unfolding ends_after
  all_messages e x = go x.messages x.ids_left x.ends_left x.lines e
    where
      go : (ms : List Message) → is' ≡ identifiers ms → es' ≡ ends_after begin ms → LinesLeft old 0 all out next (message_lines ms) → (is' ≡ []) ⊎ (es' ≡ [])
          → Put old 0 (lines_text all) out next
      go [] a b l f = none_left (subst (λ (t : List Line). LinesLeft old 0 all out next t) no_lines l)
      go (m ∷ ms) a b l (inl f) = absurd (omega (arith, ap length a, ap length f))
      go (m ∷ ms) a b l (inr f) = absurd (omega (arith, ap length b, ap length f))

module _ {old : List ℕ} {all : List Line} {ns ss out : List ℕ} {next begin id word : ℕ} {is' es' : List ℕ} (x : NextMessage old all ns ss out next begin id word is' es') where
  -- its M line has room
  pub message_fit : LinesFit out next (line.Message id ∷ [])
  message_fit = first_fit (line.Message id ∷ []) (map signal_line x.placed ++ message_lines x.later) x.lines

  -- its S lines are the next, once the M line is written
  module _ {mid : List ℕ} {m : ℕ} (p : Put out next (lines_text (line.Message id ∷ [])) mid m) where
    signals_left : LinesLeft old 0 all mid m (map signal_line x.placed ++ message_lines x.later)
    signals_left = lines_put (line.Message id ∷ []) (map signal_line x.placed ++ message_lines x.later) x.lines p

  -- as many parts of the two columns as are no more than its signals, from `begin` on: their lines have room
  module _ {fs ts : List ℕ} {n : ℕ} (a : fs ≡ take n (drop begin ns)) (b : ts ≡ take n (drop begin ss)) (h : n ≤ length x.placed) where
    some_of : (l : List ℕ) (f : Placement → ℕ) → take (length x.placed) (drop begin l) ≡ map f x.placed → take n (drop begin l) ≡ map f (take n x.placed)
    some_of l f e = sym (take-take n (length x.placed) (drop begin l) h) ∙ ap (take n) e ∙ take-map f n x.placed

    some_lines : pair_lines signal_line_of fs ts ≡ map signal_line (take n x.placed)
    some_lines =
        lines_of_signals (take n x.placed) (a ∙ some_of ns (λ (p : Placement). p.number) x.numbers_are) (b ∙ some_of ss (λ (p : Placement). p.start) x.starts_are)

    parted_lines : map signal_line x.placed ++ message_lines x.later ≡ map signal_line (take n x.placed) ++ (map signal_line (drop n x.placed) ++ message_lines x.later)
    parted_lines =
        ap (λ (l : List Line). l ++ message_lines x.later) (ap (map signal_line) (sym (take-append-drop n x.placed)) ∙ map-append signal_line (take n x.placed) (drop n x.placed))
        ∙ append_assoc (map signal_line (take n x.placed)) (map signal_line (drop n x.placed)) (message_lines x.later)

    pub signals_fit : {mid : List ℕ} {m : ℕ} → Put out next (lines_text (line.Message id ∷ [])) mid m → LinesFit mid m (pair_lines signal_line_of fs ts)
    signals_fit {mid} {m} p =
        subst (LinesFit mid m) (sym some_lines)
        (first_fit (map signal_line (take n x.placed)) (map signal_line (drop n x.placed) ++ message_lines x.later) (subst (LinesLeft old 0 all mid m) parted_lines (signals_left p)))

  -- the parts of the two columns that are its signals', from `begin` to its end
  size : word - begin ≡ length x.placed
  size = omega (arith, x.end_is)

  module _ {fs ts : List ℕ} (a : fs ≡ take (word - begin) (drop begin ns)) (b : ts ≡ take (word - begin) (drop begin ss)) where
    own_lines : pair_lines signal_line_of fs ts ≡ map signal_line x.placed
    own_lines =
        lines_of_signals x.placed (a ∙ ap (λ (k : ℕ). take k (drop begin ns)) size ∙ x.numbers_are)
        (b ∙ ap (λ (k : ℕ). take k (drop begin ss)) size ∙ x.starts_are)

    -- with both written, the messages after it are left
    pub message_written : {mid : List ℕ} {m : ℕ} → Put out next (lines_text (line.Message id ∷ [])) mid m → {new : List ℕ} {n : ℕ} → Put mid m (lines_text (pair_lines signal_line_of fs ts)) new n
        → MessagesLeft old all ns ss new n word is' es'
    message_written {mid} {m} p {new} {n} q = record {
      messages = x.later;
      lines = lines_put (map signal_line x.placed) (message_lines x.later) (signals_left p) (subst (λ (l : List Line). Put mid m (lines_text l) new n) own_lines q);
      ids_left = x.ids_on;
      ends_left = rw x.end_is x.ends_on;
      numbers_left = rw x.end_is x.numbers_on;
      starts_left = rw x.end_is x.starts_on;
      within = omega (arith, x.end_is, x.fits);
    }
