-- The keys of both texts, as bytes.
use Rattle.std.specs.Prelude.{ℕ, List, [], ◌∷◌}

-- job=
abbrev pub job_key : List ℕ
job_key = 106 ∷ 111 ∷ 98 ∷ 61 ∷ []

-- kind=
abbrev pub kind_key : List ℕ
kind_key = 107 ∷ 105 ∷ 110 ∷ 100 ∷ 61 ∷ []

-- n=
abbrev pub n_key : List ℕ
n_key = 110 ∷ 61 ∷ []

-- pin=
abbrev pub pin_key : List ℕ
pin_key = 112 ∷ 105 ∷ 110 ∷ 61 ∷ []

-- lo=
abbrev pub lo_key : List ℕ
lo_key = 108 ∷ 111 ∷ 61 ∷ []

-- hi=
abbrev pub hi_key : List ℕ
hi_key = 104 ∷ 105 ∷ 61 ∷ []

-- inv=
abbrev pub inv_key : List ℕ
inv_key = 105 ∷ 110 ∷ 118 ∷ 61 ∷ []

-- steps=
abbrev pub steps_key : List ℕ
steps_key = 115 ∷ 116 ∷ 101 ∷ 112 ∷ 115 ∷ 61 ∷ []

-- row=
abbrev pub row_key : List ℕ
row_key = 114 ∷ 111 ∷ 119 ∷ 61 ∷ []

-- eq=
abbrev pub eq_key : List ℕ
eq_key = 101 ∷ 113 ∷ 61 ∷ []

-- visit=
abbrev pub visit_key : List ℕ
visit_key = 118 ∷ 105 ∷ 115 ∷ 105 ∷ 116 ∷ 61 ∷ []

-- verdict=
abbrev pub verdict_key : List ℕ
verdict_key = 118 ∷ 101 ∷ 114 ∷ 100 ∷ 105 ∷ 99 ∷ 116 ∷ 61 ∷ []
