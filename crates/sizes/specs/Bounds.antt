-- How large the parts of a step can be, from the sizes. An end is at most 4.0, so that each product makes a bound 4
-- times as large.
use Rattle.std.specs.Prelude.{ℕ, ◌+◌, ◌*◌, ◌^◌}
use Rattle.sizes.specs.Sizes.{mark, n_max, terms_max, end_max, entry_max, degree_max}

-- a term: 2 to the power 28
abbrev pub term_max : ℕ
term_max = 4 * (4 * (4 * entry_max))

-- F, the value of an equation: 2 to the power 32
abbrev pub value_max : ℕ
value_max = terms_max * term_max

-- a term with one exponent lowered: one product less
abbrev pub lowered_max : ℕ
lowered_max = 4 * (4 * entry_max)

-- its part of a slope, multiplied by that exponent
abbrev pub part_max : ℕ
part_max = degree_max * lowered_max

-- S, a slope: 48 times 2 to the power 26
abbrev pub slope_max : ℕ
slope_max = terms_max * part_max

-- Z: an end less a middle
abbrev pub z_max : ℕ
z_max = end_max + end_max

-- D and B: an entry of C is at most 64.0
abbrev pub d_max : ℕ
d_max = n_max * (64 * value_max)

abbrev pub b_max : ℕ
b_max = mark + n_max * (64 * slope_max)

-- E: Z is at most 8.0
abbrev pub e_max : ℕ
e_max = n_max * (8 * b_max)

-- K = m - D + E
abbrev pub k_max : ℕ
k_max = (end_max + d_max) + e_max

-- what can be rounded up: with one short of a mark added it still fits a signed 64-bit number
abbrev pub up_max : ℕ
up_max = 2 ^ 62
