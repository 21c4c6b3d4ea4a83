-- A verdict is the same whether routes join places or their numbers. Assumes nothing.
use mathlib.Core.Path.{◌≡◌, sym, ap, ◌∙◌, subst}
use Prim.Native.Nat.{ℕ, ◌+◌, ◌-◌, ◌<◌, ◌≤◌}
use native.Mathlib.Omega.{arith}
use mathlib.Core.List.{List, ◌++◌}
use lib.ListN.{length, get_or, take, drop, length-append, length-take, length-drop, get_or-append}
use lib.Seq.{get_or-take, get_or-drop, get_or-append-add}
use Rattle.masks.specs.Bit.{width}
use Rattle.numbering.specs.Numbers.{FirstAt, Numbered}
use Rattle.numbering.proofs.Firsts.{number_of, number_first}
use Rattle.reach.specs.Led.{Numbers}
use Rattle.verdict.specs.Verdicts.{Judged}
use Rattle.verdict.specs.declared.Verdict.{Verdict}
use Rattle.verdict.proofs.Renaming.{Renames, judged_renamed}

-- places and their numbers give each other their names
module _ (fs ts numbers starts ends : List ℕ) (same : length fs ≡ length ts) (numbered : Numbered (ts ++ fs) numbers)
    (room : length fs + length fs ≤ length numbers)
    (is-starts : starts ≡ take (length fs + length fs - length fs) (drop (length fs) numbers)) (is-ends : ends ≡ take (length fs) numbers) where
  abbrev n : ℕ
  n = length fs

  start_count : length starts ≡ n
  start_count = ap length is-starts ∙ simp (length-take, length-drop) (omega arith)

  end-count : length ends ≡ n
  end-count = ap length is-ends ∙ simp length-take (omega arith)

  start_at : (j : ℕ) → j < n → FirstAt (ts ++ fs) (n + j) (get_or starts j 0)
  unfolding Numbered
  start_at j l =
      subst (λ (r : ℕ). FirstAt (ts ++ fs) (n + j) r)
      (sym (ap (λ (x : List ℕ). get_or x j 0) is-starts ∙ get_or-take (n + n - n) (drop n numbers) j 0 (omega arith) ∙ get_or-drop n numbers j 0))
      (numbered (n + j) (omega (arith, length-append ts fs)))

  end_at : (j : ℕ) → j < n → FirstAt (ts ++ fs) j (get_or ends j 0)
  unfolding Numbered
  end_at j l =
      subst (λ (r : ℕ). FirstAt (ts ++ fs) j r)
      (sym (ap (λ (x : List ℕ). get_or x j 0) is-ends ∙ get_or-take n numbers j 0 l))
      (numbered j (omega (arith, length-append ts fs)))

  from_at : (j : ℕ) → get_or (ts ++ fs) (n + j) 0 ≡ get_or fs j 0
  from_at j = ap (λ (k : ℕ). get_or (ts ++ fs) (k + j) 0) same ∙ get_or-append-add ts fs j 0

  to_at : (j : ℕ) → j < n → get_or (ts ++ fs) j 0 ≡ get_or ts j 0
  to_at j l = get_or-append ts fs 0 j (omega arith)

  pub low_numbers : n ≤ width → Numbers starts ends
  low_numbers few = record {
    same = omega (arith, start_count, end-count);
    from = record { few = omega (arith, start_count); low = λ j l. let k : j < n = omega (arith, start_count) in omega (arith, (start_at j k).within) };
    to = record { low = λ j l. let k : j < n = omega (arith, end-count) in omega (arith, (end_at j k).within) };
  }

  renames_places : Renames fs ts starts ends (number_of (ts ++ fs))
  renames_places = record {
    count = omega (arith, start_count);
    from = λ j l. number_first (ts ++ fs) (n + j) _ (omega (arith, length-append ts fs)) (start_at j l) ∙ ap (number_of (ts ++ fs)) (from_at j);
    to = λ j l. number_first (ts ++ fs) j _ (omega (arith, length-append ts fs)) (end_at j l) ∙ ap (number_of (ts ++ fs)) (to_at j l);
  }

  renames_numbers : Renames starts ends fs ts (λ x. get_or (ts ++ fs) x 0)
  renames_numbers = record {
    count = omega (arith, start_count);
    from = λ j l. sym ((start_at j (omega (arith, start_count))).same ∙ from_at j);
    to = λ j l. let k : j < n = omega (arith, start_count) in sym ((end_at j k).same ∙ to_at j k);
  }

  pub judged_places : (v : Verdict) → Judged starts ends v → Judged fs ts v
  judged_places v j = judged_renamed fs ts starts ends (number_of (ts ++ fs)) (λ x. get_or (ts ++ fs) x 0) renames_places renames_numbers v j
