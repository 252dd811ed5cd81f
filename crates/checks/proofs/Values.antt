-- What a call gave, from what it must give.
use Rattle.std.proofs.Common.{◌≡◌, ℕ, List, [], ◌∷◌, Ok, Result, ap, ◌∙◌}
use Rattle.checks.specs.Good.{reads}
use Rattle.checks.specs.declared.reading.Quantity.{Quantity}
use Rattle.checks.specs.declared.reading.Reading.{Reading}
use Rattle.checks.specs.declared.reading.Sent.{Sent}
use Rattle.refusal.specs.declared.Refusal.{Refusal}

pub given : {X : Type 0} {r : Result X Refusal} {v a n : X} → r ≡ Ok v → r ≡ Ok a → a ≡ n → v ≡ n
given was is e = cc

-- a reading of a value
pub reading_of : {x : Reading} {s : Sent} {m : ℕ} {q : Quantity} {read n : ℕ} → x ≡ record { sent = s; motor = m; quantity = q; read = read; good = n } → read ≡ n → x ≡ reads s m q n
reading_of {s = s} {m = m} {q = q} {n = n} e v = e ∙ ap (λ k. record { sent = s; motor = m; quantity = q; read = k; good = n }) v

-- a reading of what a call gave
pub reading_given : {x : Reading} {s : Sent} {m : ℕ} {q : Quantity} {r : Result ℕ Refusal} {read a n : ℕ} → x ≡ record { sent = s; motor = m; quantity = q; read = read; good = n } → r ≡ Ok read → r ≡ Ok a → a ≡ n → x ≡ reads s m q n
reading_given e was is v = reading_of e (given was is v)

pub ok_two : {a b a' b' : Reading} → a ≡ a' → b ≡ b' → ◌≡◌ {A = Result (List Reading) Refusal} (Ok (a ∷ b ∷ [])) (Ok (a' ∷ b' ∷ []))
ok_two p q = cc

pub ok_four : {a b c d a' b' c' d' : Reading} → a ≡ a' → b ≡ b' → c ≡ c' → d ≡ d' → ◌≡◌ {A = Result (List Reading) Refusal} (Ok (a ∷ b ∷ c ∷ d ∷ [])) (Ok (a' ∷ b' ∷ c' ∷ d' ∷ []))
ok_four p q r s = cc
