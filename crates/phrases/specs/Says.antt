-- What a writer of a part of a sentence does to its buffer.
use Rattle.std.specs.Prelude.{ℕ, ◌+◌, ◌≤◌, List}
use Rattle.writing.specs.Wrote.{Wrote}

-- no sentence is longer
abbrev pub sentence_max : ℕ
sentence_max = 256

-- where a part of a sentence may begin: room enough for every sum of places
abbrev pub place_most : ℕ
place_most = 512

-- the bytes bs stand from `at` on, and there are at most so many
pub record Says (most : ℕ) (old new : List ℕ) (at r : ℕ) (bs : List ℕ) : Type 0 where
  pub wrote : Wrote old new at r bs
  pub near : r ≤ at + most

-- the longest of each part
abbrev pub key_most : ℕ
key_most = 8

abbrev pub value_most : ℕ
value_most = 10

abbrev pub field_most : ℕ
field_most = 44

abbrev pub wrong_most : ℕ
wrong_most = 60

abbrev pub several_most : ℕ
several_most = 58

abbrev pub pin_most : ℕ
pin_most = 48

abbrev pub form_most : ℕ
form_most = 111

abbrev pub expected_most : ℕ
expected_most = 122

-- the longest words that a sentence is made with
abbrev pub words_most : ℕ
words_most = 70

abbrev pub range_most : ℕ
range_most = 125

abbrev pub noun_most : ℕ
noun_most = 40

abbrev pub some_most : ℕ
some_most = 60
