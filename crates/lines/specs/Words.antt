-- The words of the texts' lines, as bytes.
use Rattle.std.specs.Prelude.{ℕ, List, [], ◌∷◌}
use Rattle.jobs.specs.declared.Kind.{Kind}
use Rattle.jobs.specs.declared.Verdict.{Verdict}

-- poly, linear, eigen
abbrev pub kind_word : Kind → List ℕ
kind_word Kind.Poly = 112 ∷ 111 ∷ 108 ∷ 121 ∷ []
kind_word Kind.Linear = 108 ∷ 105 ∷ 110 ∷ 101 ∷ 97 ∷ 114 ∷ []
kind_word Kind.Eigen = 101 ∷ 105 ∷ 103 ∷ 101 ∷ 110 ∷ []

-- "Verdict words: none, unique, stalled, spent."
abbrev pub verdict_word : Verdict → List ℕ
verdict_word Verdict.None = 110 ∷ 111 ∷ 110 ∷ 101 ∷ []
verdict_word Verdict.Unique = 117 ∷ 110 ∷ 105 ∷ 113 ∷ 117 ∷ 101 ∷ []
verdict_word Verdict.Stalled = 115 ∷ 116 ∷ 97 ∷ 108 ∷ 108 ∷ 101 ∷ 100 ∷ []
verdict_word Verdict.Spent = 115 ∷ 112 ∷ 101 ∷ 110 ∷ 116 ∷ []
