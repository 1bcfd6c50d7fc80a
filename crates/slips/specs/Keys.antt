-- The bytes of each key.
use Rattle.std.specs.Prelude.{ℕ, List}
use Rattle.text.specs.Words.{job_key, kind_key, n_key, pin_key, lo_key, hi_key, inv_key, steps_key, eq_key, row_key}
use Rattle.text.specs.Words.{visit_key, verdict_key}
use Rattle.slips.specs.declared.Key.{Key}

abbrev pub key_words : Key → List ℕ
key_words Key.Job = job_key
key_words Key.Kind = kind_key
key_words Key.Unknowns = n_key
key_words Key.Pin = pin_key
key_words Key.Lo = lo_key
key_words Key.Hi = hi_key
key_words Key.Inv = inv_key
key_words Key.Steps = steps_key
key_words Key.Eq = eq_key
key_words Key.Row = row_key
key_words Key.Visit = visit_key
key_words Key.Verdict = verdict_key
