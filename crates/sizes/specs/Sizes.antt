-- The sizes of document 01, "Numbers and sizes", and of document 02's requests, as the contracts cite them.
use Rattle.std.specs.Prelude.{ℕ, ◌^◌}

-- "one mark is 1/65,536"
abbrev pub mark : ℕ
mark = 65536

-- P10: "Raise n to 6"
abbrev pub n_max : ℕ
n_max = 6

-- "A polynomial equation has 0 to 16 terms"
abbrev pub terms_max : ℕ
terms_max = 16

-- P10: "and the text to 4,096 bytes, for jobs and results"
abbrev pub text_max : ℕ
text_max = 4096

-- "Steps: 0 to 1,000"
abbrev pub steps_max : ℕ
steps_max = 1000

-- "Job number: 0 to 999,999,999"
abbrev pub number_max : ℕ
number_max = 999999999

-- P12: "0 for a job run alone, at most 999,999,999"
abbrev pub visit_max : ℕ
visit_max = 999999999

-- "Box ends: -262,144 to 262,144 (4.0 either way)"
abbrev pub end_max : ℕ
end_max = 262144

-- P7: "The image on hand may be any two ends in each coordinate from -2^46 to 2^46."
abbrev pub image_max : ℕ
image_max = 2 ^ 46

-- "Coefficients, matrix entries, right sides and entries of the inverse: -4,194,304 to 4,194,304 (64.0)"
abbrev pub entry_max : ℕ
entry_max = 4194304

-- "each of total degree 0 to 3"
abbrev pub degree_max : ℕ
degree_max = 3

-- P8: "Depth is 0 to 8."
abbrev pub depth_max : ℕ
depth_max = 8

-- P8: "two to the power of the depth"
abbrev pub boxes_max : ℕ
boxes_max = 2 ^ depth_max
