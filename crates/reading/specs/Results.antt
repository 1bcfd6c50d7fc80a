-- What is made of a line: a value, or its fault.
use Rattle.std.specs.Prelude.{◌≡◌, Bool, cond, Ok, Err, Result}

-- what is made of the value, where there is one
unfoldable pub after : {F A B : Type 0} → Result A F → (A → B) → Result B F
after (Ok x) h = Ok (h x)
after (Err f) h = Err f

-- the value, where a check finds no fault with it
unfoldable pub passing : {F A : Type 0} → Result A F → (A → Result (Unit {0}) F) → Result A F
passing (Ok x) check = after (check x) (λ u. x)
passing (Err f) check = Err f

-- a test of a line: its fault, or what comes after it
abbrev pub refuse : {F A : Type 0} → Bool → F → Result A F → Result A F
refuse t f r = cond t (Err f) r

-- what holds of the value, wherever there is one
pub record Told {F A : Type 0} (P : A → Type 0) (r : Result A F) : Type 0 where
  pub told : (x : A) → r ≡ Ok x → P x

-- what holds of the fault, wherever there is one
pub record Blamed {F A : Type 0} (P : F → Type 0) (r : Result A F) : Type 0 where
  pub blamed : (f : F) → r ≡ Err f → P f
