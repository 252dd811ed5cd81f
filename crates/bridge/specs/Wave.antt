-- A quarter of a sine wave, and the levels of the two windings that it gives at a count. Assumes nothing.
use Rattle.std.specs.Prelude.{ℕ, zero, suc, ◌+◌, ◌-◌, ◌*◌, ◌/◌, ◌%◌, ◌<◌, ◌≤◌, ℤ, pos, neg_ℤ, nat_abs, get_or, length, List, [], ◌∷◌, ◌≡◌}
use Rattle.bridge.specs.declared.wave.Levels.{Levels}

-- 10,000 times the sine of k × 90/256 degrees, to the nearest whole number, at each k from 0 to 256
abbrev pub entries : List ℕ
entries =
    0 ∷ 61 ∷ 123 ∷ 184 ∷ 245 ∷ 307 ∷ 368 ∷ 429 ∷ 491 ∷ 552 ∷ 613 ∷ 674 ∷ 736 ∷ 797 ∷ 858 ∷ 919 ∷
    980 ∷ 1041 ∷ 1102 ∷ 1163 ∷ 1224 ∷ 1285 ∷ 1346 ∷ 1407 ∷ 1467 ∷ 1528 ∷ 1589 ∷ 1649 ∷ 1710 ∷ 1770 ∷ 1830 ∷ 1891 ∷
    1951 ∷ 2011 ∷ 2071 ∷ 2131 ∷ 2191 ∷ 2251 ∷ 2311 ∷ 2370 ∷ 2430 ∷ 2489 ∷ 2549 ∷ 2608 ∷ 2667 ∷ 2726 ∷ 2785 ∷ 2844 ∷
    2903 ∷ 2962 ∷ 3020 ∷ 3078 ∷ 3137 ∷ 3195 ∷ 3253 ∷ 3311 ∷ 3369 ∷ 3427 ∷ 3484 ∷ 3542 ∷ 3599 ∷ 3656 ∷ 3713 ∷ 3770 ∷
    3827 ∷ 3883 ∷ 3940 ∷ 3996 ∷ 4052 ∷ 4108 ∷ 4164 ∷ 4220 ∷ 4276 ∷ 4331 ∷ 4386 ∷ 4441 ∷ 4496 ∷ 4551 ∷ 4605 ∷ 4660 ∷
    4714 ∷ 4768 ∷ 4822 ∷ 4876 ∷ 4929 ∷ 4982 ∷ 5035 ∷ 5088 ∷ 5141 ∷ 5194 ∷ 5246 ∷ 5298 ∷ 5350 ∷ 5402 ∷ 5453 ∷ 5505 ∷
    5556 ∷ 5607 ∷ 5657 ∷ 5708 ∷ 5758 ∷ 5808 ∷ 5858 ∷ 5908 ∷ 5957 ∷ 6006 ∷ 6055 ∷ 6104 ∷ 6152 ∷ 6201 ∷ 6249 ∷ 6296 ∷
    6344 ∷ 6391 ∷ 6438 ∷ 6485 ∷ 6532 ∷ 6578 ∷ 6624 ∷ 6670 ∷ 6716 ∷ 6761 ∷ 6806 ∷ 6851 ∷ 6895 ∷ 6940 ∷ 6984 ∷ 7028 ∷
    7071 ∷ 7114 ∷ 7157 ∷ 7200 ∷ 7242 ∷ 7285 ∷ 7327 ∷ 7368 ∷ 7410 ∷ 7451 ∷ 7491 ∷ 7532 ∷ 7572 ∷ 7612 ∷ 7652 ∷ 7691 ∷
    7730 ∷ 7769 ∷ 7807 ∷ 7846 ∷ 7883 ∷ 7921 ∷ 7958 ∷ 7995 ∷ 8032 ∷ 8068 ∷ 8105 ∷ 8140 ∷ 8176 ∷ 8211 ∷ 8246 ∷ 8280 ∷
    8315 ∷ 8349 ∷ 8382 ∷ 8416 ∷ 8449 ∷ 8481 ∷ 8514 ∷ 8546 ∷ 8577 ∷ 8609 ∷ 8640 ∷ 8670 ∷ 8701 ∷ 8731 ∷ 8761 ∷ 8790 ∷
    8819 ∷ 8848 ∷ 8876 ∷ 8904 ∷ 8932 ∷ 8960 ∷ 8987 ∷ 9013 ∷ 9040 ∷ 9066 ∷ 9092 ∷ 9117 ∷ 9142 ∷ 9167 ∷ 9191 ∷ 9215 ∷
    9239 ∷ 9262 ∷ 9285 ∷ 9308 ∷ 9330 ∷ 9352 ∷ 9373 ∷ 9395 ∷ 9415 ∷ 9436 ∷ 9456 ∷ 9476 ∷ 9495 ∷ 9514 ∷ 9533 ∷ 9551 ∷
    9569 ∷ 9587 ∷ 9604 ∷ 9621 ∷ 9638 ∷ 9654 ∷ 9670 ∷ 9685 ∷ 9700 ∷ 9715 ∷ 9729 ∷ 9743 ∷ 9757 ∷ 9770 ∷ 9783 ∷ 9796 ∷
    9808 ∷ 9820 ∷ 9831 ∷ 9842 ∷ 9853 ∷ 9863 ∷ 9873 ∷ 9883 ∷ 9892 ∷ 9901 ∷ 9909 ∷ 9917 ∷ 9925 ∷ 9932 ∷ 9939 ∷ 9946 ∷
    9952 ∷ 9958 ∷ 9963 ∷ 9968 ∷ 9973 ∷ 9977 ∷ 9981 ∷ 9985 ∷ 9988 ∷ 9991 ∷ 9993 ∷ 9995 ∷ 9997 ∷ 9998 ∷ 9999 ∷ 10000 ∷
    10000 ∷ []

-- the entry k
unfoldable pub quarter : ℕ → ℕ
quarter k = get_or entries k 0

-- a sum of two squares that is within 14,200 of the square of 10,000
pub record Round (sum : ℕ) : Type 0 where
  pub least : 100000000 ≤ sum + 14200
  pub most : sum ≤ 100000000 + 14200

-- the rules of the table
pub record QuarterWaveStands : Type 0 where
  pub number : length entries ≡ 257
  pub begins : quarter 0 ≡ 0
  pub ends : quarter 256 ≡ 10000
  pub never_falls : (k : ℕ) → k < 256 → quarter k ≤ quarter (k + 1)
  pub round : (k : ℕ) → k ≤ 256 → Round (quarter k * quarter k + quarter (256 - k) * quarter (256 - k))

-- the levels in the quarter q of a turn, from the sine s and the cosine c
abbrev pub in_quarter : ℕ → ℤ → ℤ → Levels
in_quarter zero s c = record { a = c; b = s }
in_quarter (suc zero) s c = record { a = neg_ℤ s; b = c }
in_quarter (suc (suc zero)) s c = record { a = neg_ℤ c; b = neg_ℤ s }
in_quarter (suc (suc (suc q))) s c = record { a = s; b = neg_ℤ c }

-- the levels at a count, of which 1024 are a turn
abbrev pub levels_at : ℕ → Levels
levels_at count = in_quarter (count % 1024 / 256) (pos (quarter (count % 256))) (pos (quarter (256 - count % 256)))

-- the square of a level
abbrev pub square : ℤ → ℕ
square z = nat_abs z * nat_abs z

-- the two levels lie on a circle, to within the rounding of the table
abbrev pub OnCircle : Levels → Type 0
OnCircle l = Round (square l.a + square l.b)
