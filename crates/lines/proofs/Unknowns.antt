-- The line `n`: "`n` is one digit".
use Prim.Native.Nat.{ℕ, ◌+◌, ◌-◌, ◌<◌}
use native.Mathlib.Omega.{arith}
use mathlib.Core.Path.{◌≡◌, refl, sym, ap, ◌∙◌}
use mathlib.Core.List.{List, [], ◌∷◌, ◌++◌}
use mathlib.Core.Bool.{true, false, false≢true}
use lib.ListN.{length, get_or}
use lib.Dec.{eqb}
use borrow.Author.Tests.{le-leb, eqb-true}
use Rattle.lists.specs.Loops.{all_b}
use Rattle.lists.proofs.All.{all-each}
use Rattle.digits.specs.Bytes.{digit0, digit9}
use Rattle.digits.specs.Number.{digits_max}
use Rattle.digits.specs.Show.{show_magnitude}
use Rattle.digits.proofs.Show.{show-low}
use Rattle.text.specs.Words.{n_key}
use Rattle.text.specs.Keys.{body_of}
use Rattle.text.proofs.Keys.{both, body_own, body-was}
use Rattle.checks.specs.Checks.{unknowns_check}
use Rattle.term_text.specs.Terms.{one_digit}
use Rattle.digits.specs.Digits.{is_digit, all_digits}
use Rattle.term_round.proofs.WriteBack.{digit-is}
use Rattle.reading.specs.Results.{after, passing, Told}
use Rattle.reading.proofs.Told.{not-false, told-got, told-unless, told-map, told-passing}
use Rattle.lines.specs.Lines.{digit_is, unknowns_of}
use Rattle.lines.specs.Texts.{count_text}
use Rattle.lines.proofs.Was.{LineWas}
use Rattle.std.specs.Prelude.{Ok}

one-digit : (n : ℕ) → n < 10 → one_digit ((digit0 + n) ∷ []) ≡ true
unfolding one_digit all_digits all_b is_digit
one-digit n h = rw (le-leb digit0 (digit0 + n) (omega arith), le-leb (digit0 + n) digit9 (omega arith))

pub digit-back : (n : ℕ) → n < 10 → digit_is (body_of n_key (count_text n_key n)) ≡ Ok n
unfolding digit_is
digit-back n h =
    let e : digit0 + n - digit0 ≡ n = omega arith in
    rw (body_own n_key (show_magnitude digits_max n), show-low 8 n h, one-digit n h, e)

pub unknowns-back : (n : ℕ) → n < 10
    → unknowns_of (count_text n_key n) ≡ after (unknowns_check n) (λ u. n)
unfolding unknowns_of passing
unknowns-back n h = rw (digit-back n h)

-- one digit is written as it stood
digit-text : (b : List ℕ) → one_digit b ≡ true → show_magnitude digits_max (get_or b 0 0 - digit0) ≡ b
unfolding one_digit all_digits
digit-text [] e = absurd (false≢true e)
digit-text (d ∷ []) e =
    let p = both (eqb (length (d ∷ [])) 1) _ e in
    let is = digit-is d (all-each _ 1 0 (omega arith) p.1) in
    show-low 8 (d - digit0) (omega (arith, is.1)) ∙ ap (λ (b : ℕ). b ∷ []) (omega (arith, is.0))
digit-text (d ∷ c ∷ b) e =
    let p = both (eqb (length (d ∷ c ∷ b)) 1) _ e in
    let one = eqb-true (length (d ∷ c ∷ b)) 1 p.0 in
    absurd (omega arith)

no_digit : one_digit [] ≡ false
unfolding one_digit
no_digit = refl

digit-told : (l : List ℕ) → Told (λ n. count_text n_key n ≡ l) (digit_is (body_of n_key l))
unfolding digit_is
digit-told l =
    told-unless _ _ _ (λ e.
    let one = not-false _ e in
    told-got _ (ap (λ (x : List ℕ). n_key ++ x) (digit-text (body_of n_key l) one)
    ∙ body-was n_key l (λ n. absurd (false≢true (sym no_digit ∙ ap one_digit (sym n) ∙ one)))))

pub unknowns-told : (l : List ℕ) → Told (LineWas (count_text n_key) unknowns_check (λ n. n) l) (unknowns_of l)
unfolding unknowns_of
unknowns-told l =
    told-map _ (told-passing _ _ (digit-told l)) (λ n e. record { shown = e.0; fine = e.1; whole = refl })
