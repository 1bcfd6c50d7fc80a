-- A text taken byte by byte and cut at each separator: lines at LF, the fields of a list at the comma.
use Rattle.std.specs.Prelude.{ℕ, suc, ◌≤◌, ◌<◌, cond, ◌≡◌, length, get_or, eqb}
use mathlib.Core.List.{List, [], ◌∷◌, ◌++◌, foldl}

-- what is made of the pieces that have ended, and the bytes of the piece that has not
pub record Cut (S : Type 0) : Type 0 where
  pub st : S
  pub held : List ℕ

-- with no byte held
abbrev pub fresh : {S : Type 0} → S → Cut S
fresh s = record { st = s; held = [] }

-- one byte more: a separator ends the piece, and any other byte is held
unfoldable pub feed : {S : Type 0} → (S → List ℕ → S) → ℕ → Cut S → ℕ → Cut S
feed step sep k b =
    cond (eqb b sep) (fresh (step k.st k.held)) (record { st = k.st; held = k.held ++ (b ∷ []) })

-- all of a text
unfoldable pub feeds : {S : Type 0} → (S → List ℕ → S) → ℕ → Cut S → List ℕ → Cut S
feeds step sep k bs = foldl (feed step sep) k bs

-- one piece more
abbrev pub snoc : List (List ℕ) → List ℕ → List (List ℕ)
snoc ps p = ps ++ (p ∷ [])

-- the pieces that a separator ends, and the bytes after the last separator
unfoldable pub pieces : ℕ → List ℕ → List (List ℕ)
pieces sep t = (feeds snoc sep (fresh []) t).st

unfoldable pub rest : ℕ → List ℕ → List ℕ
rest sep t = (feeds snoc sep (fresh []) t).held

-- the place of the first separator; the length where there is none
unfoldable pub place_of : ℕ → List ℕ → ℕ
place_of sep [] = 0
place_of sep (b ∷ l) = cond (eqb b sep) 0 (suc (place_of sep l))

-- the piece that begins at a ends at e: the next separator stands there, or nothing
pub record PieceEnd (s : List ℕ) (sep a e : ℕ) : Type 0 where
  pub after : a ≤ e
  pub inside : e ≤ length s
  pub ends : e < length s → get_or s e 0 ≡ sep
  pub none : (k : ℕ) → a ≤ k → k < e → get_or s k 0 ≡ sep → ⊥

-- each piece with the separator after it
unfoldable pub end_each : ℕ → List (List ℕ) → List ℕ
end_each sep [] = []
end_each sep (l ∷ ls) = l ++ (sep ∷ end_each sep ls)
