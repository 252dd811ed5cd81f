-- The number of each refusal. Assumes nothing.
use Rattle.std.specs.Prelude.{ℕ, Ok, Err, Result}
use Rattle.refusal.specs.declared.Refusal.{Refusal}
use Rattle.refusal.specs.declared.Refusal.TheVariants.{UnknownRegister, Closed, OutOfRange, MotorPowered, RecordLength, AnswerLength, UnknownMotor, UnknownFlags}

abbrev pub number : Refusal → ℕ
number UnknownRegister = 1
number Closed = 2
number OutOfRange = 3
number MotorPowered = 4
number RecordLength = 5
number AnswerLength = 6
number UnknownMotor = 7
number UnknownFlags = 8

-- the number that a call answers: 0 where it is taken
abbrev pub answer_number : Result (Unit {0}) Refusal → ℕ
answer_number (Ok u) = 0
answer_number (Err e) = number e
