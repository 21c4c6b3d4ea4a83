-- The listing of a buffer, one line at a time: what is listed of the rest, after what was listed, is the listing of the whole.
-- Assumes nothing.
use mathlib.Core.Path.{◌≡◌, refl, sym, ap, ◌∙◌}
use mathlib.Core.Bool.{Bool, true, false, cond}
use mathlib.Core.List.{List, ◌∷◌, ◌++◌}
use Prim.Native.Nat.{ℕ, ◌+◌, ◌-◌, ◌≤◌, ◌<◌}
use native.Mathlib.Nat.{zero-add}
use native.Mathlib.Omega.{arith}
use lib.Dec.{leb}
use lib.ListN.{length, take, drop, length-append, length-drop}
use lib.Seq.{sets, sets-eq, drop-drop, length-take-le}
use borrow.Author.Tests.{leb-true, leb-false, le-leb, lt-leb}
use Rattle.framing.specs.Messages.{written}
use Rattle.parts.specs.Parts.{ended, lines, index_of}
use Rattle.parts.proofs.LineEnds.{lines_none, lines_more, lines_last}
use Rattle.printing.specs.Put.{Put}
use Rattle.printing.proofs.Puts.{sets_append, put_length}
use Rattle.std.specs.Prelude.{Option, Some, None, Result, Ok}
use Rattle.listing.specs.declared.Listed.{Listed}
use Rattle.listing.specs.declared.ListRefusal.{ListRefusal}
use Rattle.listing.specs.Listing.{ListedLines, no_lines_spec, line_then, lines_that_fit, listed_answer}
use Rattle.listing.specs.Working.{fitted}

-- ---- what a call that may not fit says

pub record Went (out : List ℕ) (at : ℕ) (text new : List ℕ) (next : ℕ) : Type 0 where
  pub fits : length text ≤ length out - at
  pub put : Put out at text new next

pub record Stayed (out : List ℕ) (at : ℕ) (text new : List ℕ) : Type 0 where
  pub longer : length out - at < length text
  pub same : new ≡ out

module _ (out : List ℕ) (at : ℕ) (text : List ℕ) {new : List ℕ} where
  pub went : (next : ℕ) → ◌≡◌ {A = Option ℕ × List ℕ} (Some next, new) (fitted out at text) → Went out at text new next
  unfolding fitted
  went next e = go (leb (length text) (length out - at)) refl (ap (λ (p : Option ℕ × List ℕ). p.0) e) (ap (λ (p : Option ℕ × List ℕ). p.1) e)
    where
      go : (b : Bool) → leb (length text) (length out - at) ≡ b
          → Some next ≡ (cond {A = Option ℕ × List ℕ} b (Some (at + length text), sets out at text) (None, out)).0
          → new ≡ (cond {A = Option ℕ × List ℕ} b (Some (at + length text), sets out at text) (None, out)).1 → Went out at text new next
      go true q x y = let z : next ≡ at + length text = cc in record { fits = leb-true _ _ q; put = record { now_there = y; now_at = z } }
      go false q x y = absurd (let z : ◌≡◌ {A = ℕ} 0 1 = cc in omega arith)

  module _ (e : ◌≡◌ {A = Option ℕ × List ℕ} (None, new) (fitted out at text)) where
    pub stayed : Stayed out at text new
    unfolding fitted
    stayed = go (leb (length text) (length out - at)) refl (ap (λ (p : Option ℕ × List ℕ). p.0) e) (ap (λ (p : Option ℕ × List ℕ). p.1) e)
      where
        go : (b : Bool) → leb (length text) (length out - at) ≡ b
            → None ≡ (cond {A = Option ℕ × List ℕ} b (Some (at + length text), sets out at text) (None, out)).0
            → new ≡ (cond {A = Option ℕ × List ℕ} b (Some (at + length text), sets out at text) (None, out)).1 → Stayed out at text new
        go true q x y = absurd (let z : ◌≡◌ {A = ℕ} 0 1 = cc in omega arith)
        go false q x y = record { longer = leb-false _ _ q; same = y }

    pub stayed_long : length new ≡ length out
    stayed_long = ap length stayed.same

-- ---- the loop

abbrev pub whole : (List ℕ → List ℕ) → List ℕ → List ℕ → ListedLines
whole print text old = lines_that_fit print (length old) (lines text)

abbrev pub left : (List ℕ → List ℕ) → List ℕ → List ℕ → ℕ → ℕ → ListedLines
left print text old used wrote = lines_that_fit print (length old - wrote) (lines (drop used text))

pub record Ran (print : List ℕ → List ℕ) (text old out : List ℕ) (used wrote : ℕ) : Type 0 where
  pub bytes : used + (left print text old used wrote).used ≡ (whole print text old).used
  pub there : sets out wrote (left print text old used wrote).text ≡ sets old 0 (whole print text old).text
  pub end : wrote + length (left print text old used wrote).text ≡ length (whole print text old).text
  pub size : length out ≡ length old
  pub inside : wrote ≤ length old
  pub within : used ≤ length text

pub none_ran : (print : List ℕ → List ℕ) (text old : List ℕ) → Ran print text old old 0 0
none_ran print text old =
    let e : left print text old 0 0 ≡ whole print text old = ap (λ (n : ℕ). lines_that_fit print n (lines text)) (omega arith) in
    record {
      bytes = omega (arith, ap (λ (r : ListedLines). r.used) e);
      there = ap (λ (r : ListedLines). sets old 0 r.text) e;
      end = omega (arith, ap (λ (r : ListedLines). length r.text) e);
      size = refl;
      inside = omega arith;
      within = omega arith;
    }

module _ {print : List ℕ → List ℕ} {text old out : List ℕ} {used wrote : ℕ} (r : Ran print text old out used wrote) where
  -- nothing more is listed
  finished : left print text old used wrote ≡ no_lines_spec → ◌≡◌ {A = Result Listed ListRefusal × List ℕ} (Ok (record { used = used; written = wrote }), out) (listed_answer (whole print text old) old)
  finished e =
      let bytes : used ≡ (whole print text old).used = omega (arith, ap (λ (x : ListedLines). x.used) e, r.bytes) in
      let end : wrote ≡ length (whole print text old).text = omega (arith, ap (λ (x : ListedLines). length x.text) e, r.end) in
      let there : out ≡ sets old 0 (whole print text old).text = ap (λ (x : ListedLines). sets out wrote x.text) (sym e) ∙ r.there in
      let stands : out ≡ written (whole print text old).text old =
      there ∙ sets-eq (whole print text old).text old 0 (omega (arith, r.inside)) ∙ ap (λ (n : ℕ). (whole print text old).text ++ drop n old) (zero-add (length (whole print text old).text)) in
      ap (λ (n : ℕ). (Ok (record { used = n; written = wrote }), out)) bytes
      ∙ ap (λ (n : ℕ). (Ok (record { used = (whole print text old).used; written = n }), out)) end
      ∙ ap (λ (l : List ℕ). (Ok (record { used = (whole print text old).used; written = (length (whole print text old).text) }), l)) stands

  pub all_ran : length text ≤ used → ◌≡◌ {A = Result Listed ListRefusal × List ℕ} (Ok (record { used = used; written = wrote }), out) (listed_answer (whole print text old) old)
  unfolding lines_that_fit
  all_ran h = finished (ap (lines_that_fit print (length old - wrote)) (lines_none text used h))

  module _ (h : used < length text) {rest : List ℕ} (x : rest ≡ drop used text) {k : ℕ} (e : k ≡ index_of 10 rest) where
    pub no_end : length rest ≤ k → ◌≡◌ {A = Result Listed ListRefusal × List ℕ} (Ok (record { used = used; written = wrote }), out) (listed_answer (whole print text old) old)
    unfolding lines_that_fit
    no_end t =
        finished
        (ap (lines_that_fit print (length old - wrote))
        (ap lines (sym x) ∙ lines_last rest e t (omega (arith, ap length x, length-drop used text))))

    module _ (t : k < length rest) {line : List ℕ} (y : line ≡ take k rest) where
      next_line_law : lines (drop used text) ≡ ended line ∷ lines (drop (used + (k + 1)) text)
      next_line_law =
          ap lines (sym x) ∙ lines_more rest e t
          ∙ ap (λ (l : List ℕ). ended l ∷ lines (drop (k + 1) rest)) (sym y)
          ∙ ap (λ (l : List ℕ). ended line ∷ lines (drop (k + 1) l)) x
          ∙ ap (λ (l : List ℕ). ended line ∷ lines l) (drop-drop (k + 1) used text)

      -- the line does not fit
      pub no_room : {new : List ℕ} → Stayed out wrote (print line) new → ◌≡◌ {A = Result Listed ListRefusal × List ℕ} (Ok (record { used = used; written = wrote }), new) (listed_answer (whole print text old) old)
      unfolding lines_that_fit
      no_room {new} s =
          ap (λ (l : List ℕ). (Ok (record { used = used; written = wrote }), l)) s.same
          ∙ finished (ap (lines_that_fit print (length old - wrote)) next_line_law ∙ rw (lt-leb (length (print line)) (length old - wrote) (omega (arith, s.longer, r.size))))

      -- the line fits, and is listed
      module _ {new : List ℕ} {next : ℕ} (w : Went out wrote (print line) new next) where
        room : length old - wrote - length (print line) ≡ length old - next
        room = omega (arith, w.put.now_at)

        onward : left print text old used wrote ≡ line_then line (print line) (left print text old (used + (k + 1)) next)
        unfolding lines_that_fit
        onward =
            ap (lines_that_fit print (length old - wrote)) next_line_law
            ∙ rw (le-leb (length (print line)) (length old - wrote) (omega (arith, w.fits, r.size))) refl
            ∙ ap (λ (n : ℕ). line_then line (print line) (lines_that_fit print n (lines (drop (used + (k + 1)) text)))) room

        pub line_ran : Ran print text old new (used + (k + 1)) next
        line_ran =
            let after = left print text old (used + (k + 1)) next in
            let long : length line ≡ k = ap length y ∙ length-take-le k rest (omega arith) in
            record {
              bytes = omega (arith, ap (λ (q : ListedLines). q.used) onward, r.bytes);
              there =
                  ap (λ (l : List ℕ). sets l next after.text) w.put.now_there
                  ∙ ap (λ (n : ℕ). sets (sets out wrote (print line)) n after.text) w.put.now_at
                  ∙ sets_append out wrote (print line) after.text
                  ∙ ap (λ (q : ListedLines). sets out wrote q.text) (sym onward)
                  ∙ r.there;
              end = omega (arith, w.put.now_at, ap (λ (q : ListedLines). length q.text) onward, length-append (print line) after.text, r.end);
              size = put_length w.put ∙ r.size;
              inside = omega (arith, w.put.now_at, w.fits, r.size, r.inside);
              within = omega (arith, ap length x, length-drop used text);
            }
