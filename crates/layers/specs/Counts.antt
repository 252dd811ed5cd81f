-- Counts modulo 2 ^ 32: negated, raised by a shift, and stepped in between.
use Rattle.std.proofs.Common.{◌≡◌, ℕ, zero, suc, ◌^◌, ◌<◌, ℤ, pos, ◌+ℤ◌, neg_ℤ, sym, refl, ap, ◌∙◌, arith, lit<}
use Rattle.coil.proofs.Wraps.{modulo_below, modulo_onto}
use Rattle.coil.specs.Meaning.{stepped}
use Rattle.coil.specs.Modulo.{modulo}
use Rattle.layers.specs.Layers.{negated, raised}
use Rattle.std.proofs.lemmas.Int.{ints}

abbrev wrap : ℤ → ℕ
wrap = modulo (2 ^ 32)

onto : (a b : ℤ) → wrap (pos (wrap a) +ℤ b) ≡ wrap (a +ℤ b)
onto a b = modulo_onto (2 ^ 32) a b (lit< tt)

wrap_below : (z : ℤ) → wrap z < 2 ^ 32
wrap_below z = modulo_below (2 ^ 32) z (lit< tt)

-- the remainder may be taken before a number is negated
negℤ_onto : (z : ℤ) → wrap (neg_ℤ (pos (wrap z))) ≡ wrap (neg_ℤ z)
negℤ_onto z =
    let m = pos (wrap z) in
    let b = neg_ℤ m +ℤ neg_ℤ z in
    let left : z +ℤ b ≡ neg_ℤ m = omega (arith, ints) in
    let right : m +ℤ b ≡ neg_ℤ z = omega (arith, ints) in
    ap wrap (sym left) ∙ sym (onto z b) ∙ ap wrap right

negated_is : (n : ℕ) → n < 2 ^ 32 → negated n ≡ wrap (neg_ℤ (pos n))
unfolding modulo
negated_is zero h = refl
negated_is (suc n) h = omega arith

pub negated_steps : (steps : ℤ) (n : ℕ) → n < 2 ^ 32 → negated (stepped n (neg_ℤ steps)) ≡ stepped (negated n) steps
negated_steps steps n h =
    let turn : neg_ℤ (pos n +ℤ neg_ℤ steps) ≡ neg_ℤ (pos n) +ℤ steps = omega (arith, ints) in
    negated_is (stepped n (neg_ℤ steps)) (wrap_below (pos n +ℤ neg_ℤ steps))
    ∙ negℤ_onto (pos n +ℤ neg_ℤ steps)
    ∙ ap wrap turn
    ∙ sym (onto (neg_ℤ (pos n)) steps)
    ∙ ap (λ m. stepped m steps) (sym (negated_is n h))

raised_is : (shift n : ℕ) → raised shift n ≡ wrap (pos n +ℤ pos shift)
unfolding modulo
raised_is shift n = refl

pub raised_steps : (shift : ℕ) (steps : ℤ) (n : ℕ) → raised shift (stepped n steps) ≡ stepped (raised shift n) steps
raised_steps shift steps n =
    let turn : (pos n +ℤ steps) +ℤ pos shift ≡ (pos n +ℤ pos shift) +ℤ steps = omega (arith, ints) in
    raised_is shift (stepped n steps)
    ∙ onto (pos n +ℤ steps) (pos shift)
    ∙ ap wrap turn
    ∙ sym (onto (pos n +ℤ pos shift) steps)
    ∙ ap (λ m. stepped m steps) (sym (raised_is shift n))

pub negated_twice : (n : ℕ) → n < 2 ^ 32 → negated (negated n) ≡ n
negated_twice n h = omega arith
