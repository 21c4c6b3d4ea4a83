-- The fault sum in numbers: what the call returns, with the seven words lent for the sum as it leaves them. Assumes nothing.
use Rattle.std.specs.Prelude.{ℕ, cond, List, [], ◌∷◌, Ok, Err}
use Rattle.faults.specs.declared.FaultSum.{FaultSum}
use Rattle.faults.specs.Sum.{FaultAnswer, fault_refusal, answer_to}

-- highest, at 1, at 2, at 3, set, emergency, agrees; 1 and 0 for yes and no
abbrev pub sum_words : FaultSum → List ℕ
sum_words s =
    s.highest ∷ s.at_1 ∷ s.at_2 ∷ s.at_3 ∷ s.set ∷ cond s.emergency 1 0 ∷ cond s.agrees 1 0 ∷ []

-- a refusal leaves the words
abbrev pub words_after : FaultAnswer → List ℕ → List ℕ
words_after (Ok s) words = sum_words s
words_after (Err why) words = words

abbrev pub summed_in_numbers : FaultAnswer → List ℕ → ℕ × List ℕ
summed_in_numbers a words = (fault_refusal a, words_after a words)

-- pc_fault_sum
abbrev pub faults_summed : List ℕ → List ℕ → ℕ × List ℕ
faults_summed counts words = summed_in_numbers (answer_to counts) words
