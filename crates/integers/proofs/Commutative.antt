-- The commutative ring of the integers: what lib.IntN has not. Assumes nothing.
use mathlib.Core.Path.{◌≡◌, sym, ap, ◌∙◌}
use lib.IntN.{ℤ, pos, neg_ℤ, ◌+ℤ◌, ◌-ℤ◌, ◌*ℤ◌, ℤ_ind, one, +ℤ-suc_ℤ, +ℤ-pred_ℤ, +ℤ_idr, +ℤ_one, -ℤ_one}
use lib.IntN.{+ℤ_assoc, +ℤ_comm, +ℤ_invr, +ℤ_invl, *ℤ_comm, zero-*ℤ, *ℤ-one, suc_ℤ-*ℤ, pred_ℤ-*ℤ}

pub swap4 : (a b c d : ℤ) → (a +ℤ b) +ℤ (c +ℤ d) ≡ (a +ℤ c) +ℤ (b +ℤ d)
swap4 a b c d =
    +ℤ_assoc a b (c +ℤ d) ∙ ap (λ (x : ℤ). a +ℤ x)
    (sym (+ℤ_assoc b c d) ∙ ap (λ (x : ℤ). x +ℤ d) (+ℤ_comm b c) ∙ +ℤ_assoc c b d) ∙ sym (+ℤ_assoc a c (b +ℤ d))

pub *ℤ-distrib-r : (a b c : ℤ) → (a +ℤ b) *ℤ c ≡ a *ℤ c +ℤ b *ℤ c
*ℤ-distrib-r a b c =
    ℤ_ind (λ (x : ℤ). (a +ℤ x) *ℤ c ≡ a *ℤ c +ℤ x *ℤ c)
    (ap (λ (y : ℤ). y *ℤ c) (+ℤ_idr a) ∙ sym (+ℤ_idr (a *ℤ c)) ∙ ap (λ (y : ℤ). a *ℤ c +ℤ y) (sym (zero-*ℤ c)))
    (λ n h. up (pos n) h)
    (λ n h. down (neg_ℤ (pos n)) h)
    b
  where
    up : (x : ℤ) → (a +ℤ x) *ℤ c ≡ a *ℤ c +ℤ x *ℤ c → (a +ℤ (x +ℤ pos 1)) *ℤ c ≡ a *ℤ c +ℤ (x +ℤ pos 1) *ℤ c
    up x h =
        ap (λ (y : ℤ). (a +ℤ y) *ℤ c) (+ℤ_one x) ∙ ap (λ (y : ℤ). y *ℤ c) (+ℤ-suc_ℤ a x) ∙ suc_ℤ-*ℤ (a +ℤ x) c
        ∙ ap (λ (y : ℤ). y +ℤ c) h
        ∙ +ℤ_assoc (a *ℤ c) (x *ℤ c) c
        ∙ ap (λ (y : ℤ). a *ℤ c +ℤ y) (sym (suc_ℤ-*ℤ x c) ∙ ap (λ (y : ℤ). y *ℤ c) (sym (+ℤ_one x)))

    down : (x : ℤ)
        → (a +ℤ x) *ℤ c ≡ a *ℤ c +ℤ x *ℤ c → (a +ℤ (x +ℤ neg_ℤ (pos 1))) *ℤ c ≡ a *ℤ c +ℤ (x +ℤ neg_ℤ (pos 1)) *ℤ c
    down x h =
        ap (λ (y : ℤ). (a +ℤ y) *ℤ c) (-ℤ_one x) ∙ ap (λ (y : ℤ). y *ℤ c) (+ℤ-pred_ℤ a x) ∙ pred_ℤ-*ℤ (a +ℤ x) c
        ∙ ap (λ (y : ℤ). y -ℤ c) h
        ∙ +ℤ_assoc (a *ℤ c) (x *ℤ c) (neg_ℤ c)
        ∙ ap (λ (y : ℤ). a *ℤ c +ℤ y) (sym (pred_ℤ-*ℤ x c) ∙ ap (λ (y : ℤ). y *ℤ c) (sym (-ℤ_one x)))

pub *ℤ-distrib-l : (a b c : ℤ) → a *ℤ (b +ℤ c) ≡ a *ℤ b +ℤ a *ℤ c
*ℤ-distrib-l a b c = *ℤ_comm a (b +ℤ c) ∙ *ℤ-distrib-r b c a ∙ ap (λ (x : ℤ). x +ℤ c *ℤ a) (*ℤ_comm b a)
    ∙ ap (λ (x : ℤ). a *ℤ b +ℤ x) (*ℤ_comm c a)

-- cancellation
pub +ℤ-cancel : (a b c : ℤ) → a +ℤ c ≡ b +ℤ c → a ≡ b
+ℤ-cancel a b c h = sym (undo a) ∙ ap (λ (x : ℤ). x +ℤ neg_ℤ c) h ∙ undo b
  where
    undo : (x : ℤ) → (x +ℤ c) +ℤ neg_ℤ c ≡ x
    undo x = +ℤ_assoc x c (neg_ℤ c) ∙ ap (λ (y : ℤ). x +ℤ y) (+ℤ_invr c) ∙ +ℤ_idr x

pub neg-*ℤ : (a b : ℤ) → neg_ℤ a *ℤ b ≡ neg_ℤ (a *ℤ b)
neg-*ℤ a b = +ℤ-cancel (neg_ℤ a *ℤ b) (neg_ℤ (a *ℤ b)) (a *ℤ b)
    (sym (*ℤ-distrib-r (neg_ℤ a) a b) ∙ ap (λ (x : ℤ). x *ℤ b) (+ℤ_invl a) ∙ zero-*ℤ b ∙ sym (+ℤ_invl (a *ℤ b)))

pub *ℤ-neg : (a b : ℤ) → a *ℤ neg_ℤ b ≡ neg_ℤ (a *ℤ b)
*ℤ-neg a b = *ℤ_comm a (neg_ℤ b) ∙ neg-*ℤ b a ∙ ap neg_ℤ (*ℤ_comm b a)

pub one-*ℤ : (x : ℤ) → pos 1 *ℤ x ≡ x
unfolding one
one-*ℤ x = *ℤ_comm (pos 1) x ∙ *ℤ-one x

pub *ℤ-assoc : (a b c : ℤ) → (a *ℤ b) *ℤ c ≡ a *ℤ (b *ℤ c)
*ℤ-assoc a b c =
    ℤ_ind (λ (x : ℤ). (x *ℤ b) *ℤ c ≡ x *ℤ (b *ℤ c))
    (ap (λ (y : ℤ). y *ℤ c) (zero-*ℤ b) ∙ zero-*ℤ c ∙ sym (zero-*ℤ (b *ℤ c)))
    (λ n h. step (pos n) (pos 1) h (ap (λ (y : ℤ). y *ℤ c) (one-*ℤ b) ∙ sym (one-*ℤ (b *ℤ c))))
    (λ n h.
    step (neg_ℤ (pos n)) (neg_ℤ (pos 1)) h (ap (λ (y : ℤ). y *ℤ c) (mone-l b) ∙ neg-*ℤ b c ∙ sym (mone-l (b *ℤ c))))
    a
  where
    mone-l : (x : ℤ) → neg_ℤ (pos 1) *ℤ x ≡ neg_ℤ x
    mone-l x = neg-*ℤ (pos 1) x ∙ ap neg_ℤ (one-*ℤ x)

    step : (x d : ℤ) → (x *ℤ b) *ℤ c ≡ x *ℤ (b *ℤ c) → (d *ℤ b) *ℤ c ≡ d *ℤ (b *ℤ c)
        → ((x +ℤ d) *ℤ b) *ℤ c ≡ (x +ℤ d) *ℤ (b *ℤ c)
    step x d h k =
        ap (λ (y : ℤ). y *ℤ c) (*ℤ-distrib-r x d b) ∙ *ℤ-distrib-r (x *ℤ b) (d *ℤ b) c
        ∙ ap (λ (y : ℤ). y +ℤ (d *ℤ b) *ℤ c) h
        ∙ ap (λ (y : ℤ). x *ℤ (b *ℤ c) +ℤ y) k
        ∙ sym (*ℤ-distrib-r x d (b *ℤ c))

pub *ℤ-left-comm : (a b c : ℤ) → a *ℤ (b *ℤ c) ≡ b *ℤ (a *ℤ c)
*ℤ-left-comm a b c = sym (*ℤ-assoc a b c) ∙ ap (λ (x : ℤ). x *ℤ c) (*ℤ_comm a b) ∙ *ℤ-assoc b a c

pub +ℤ-left-comm : (a b c : ℤ) → a +ℤ (b +ℤ c) ≡ b +ℤ (a +ℤ c)
+ℤ-left-comm a b c = sym (+ℤ_assoc a b c) ∙ ap (λ (x : ℤ). x +ℤ c) (+ℤ_comm a b) ∙ +ℤ_assoc b a c
