-- The stopping distance: it rises with the speed, its first term, its closed form. Assumes nothing.
use Rattle.std.proofs.Common.{◌≡◌, ℕ, zero, suc, ◌+◌, ◌-◌, ◌*◌, ◌/◌, ◌≤◌, refl, ap, zero-add, div-mul-le_self, arith}
use native.Mathlib.Nat.{lt-div-mul-add, zero-sub}
use Rattle.profile.specs.Ramp.{descent, stopping_distance}

-- at standstill every term is 0
at_rest : (k dec : ℕ) → descent k 0 dec ≡ 0
unfolding descent
at_rest zero dec = refl
at_rest (suc k) dec = rw (zero-sub, at_rest k dec)

-- from a greater speed, and with more terms, the sum is no less
more : (j k m n dec : ℕ) → j ≤ k → m ≤ n → descent j m dec ≤ descent k n dec
unfolding descent
more zero k m n dec h g = omega arith
more (suc j) zero m n dec h g = omega arith
more (suc j) (suc k) m n dec h g = omega (arith, more j k (m - dec) (n - dec) dec (omega arith) (omega arith))

pub rises : (m n dec : ℕ) → m ≤ n → stopping_distance m dec ≤ stopping_distance n dec
unfolding stopping_distance
rises m n dec h = more m n m n dec h h

-- as many terms as the speed has units are all that count
enough : (j k n dec : ℕ) → 1 ≤ dec → n ≤ j → n ≤ k → descent j n dec ≡ descent k n dec
unfolding descent
enough zero k n dec p h g = let e : n ≡ 0 = omega arith in rw (e, at_rest k dec)
enough (suc j) zero n dec p h g = let e : n ≡ 0 = omega arith in rw (e, zero-sub, at_rest j dec)
enough (suc j) (suc k) n dec p h g = ap (λ (x : ℕ). n + x) (enough j k (n - dec) dec p (omega arith) (omega arith))

pub first_term : (n dec : ℕ) → 1 ≤ dec → stopping_distance n dec ≡ n + stopping_distance (n - dec) dec
unfolding stopping_distance descent
first_term zero dec p = rw (zero-sub, zero-add)
first_term (suc n) dec p = ap (λ (x : ℕ). suc n + x) (enough n (suc n - dec) (suc n - dec) dec p (omega arith) (omega arith))

-- twice the sum of the first q + 1 terms, where the next is 0: one more deceleration lengthens it so
lengthened : (m dec q n rest : ℕ) → n ≡ m + dec → 2 * rest + dec * (q * (q + 1)) ≡ 2 * ((q + 1) * m) →
    2 * (n + rest) + dec * (suc q * (suc q + 1)) ≡ 2 * ((suc q + 1) * n)
lengthened m dec q n rest e h = omega (arith, ap (λ (x : ℕ). q * x) e)

doubled : (k n dec q : ℕ) → 1 ≤ dec → n ≤ k → q * dec ≤ n → n ≤ q * dec + dec → 2 * descent k n dec + dec * (q * (q + 1)) ≡ 2 * ((q + 1) * n)
unfolding descent
doubled zero n dec zero p h low high = omega arith
doubled zero n dec (suc q) p h low high = omega arith
doubled (suc k) n dec zero p h low high = let e : n - dec ≡ 0 = omega arith in rw (e, at_rest k dec) (omega arith)
doubled (suc k) n dec (suc q) p h low high =
    lengthened (n - dec) dec q n (descent k (n - dec) dec) (omega arith) (doubled k (n - dec) dec q p (omega arith) (omega arith) (omega arith))

-- a product of two neighbors is even
halved : (q : ℕ) → 2 * (q * (q + 1) / 2) ≡ q * (q + 1)
halved zero = omega arith
halved (suc q) = omega (arith, halved q)

pub closed_form : (n dec : ℕ) → 1 ≤ dec → (n / dec + 1) * n ≡ stopping_distance n dec + dec * (n / dec * (n / dec + 1) / 2)
unfolding stopping_distance
closed_form n dec p =
    from (n / dec) (descent n n dec) (halved (n / dec))
    (doubled n n dec (n / dec) p (omega arith) (div-mul-le_self n dec) (omega (arith, lt-div-mul-add {a = n} p)))
  where
    from : (q sum : ℕ) → 2 * (q * (q + 1) / 2) ≡ q * (q + 1) → 2 * sum + dec * (q * (q + 1)) ≡ 2 * ((q + 1) * n) → (q + 1) * n ≡ sum + dec * (q * (q + 1) / 2)
    from q sum h e = omega (arith, ap (λ (x : ℕ). dec * x) h)
