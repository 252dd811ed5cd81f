-- The readings of a good module, check by check. Assumes nothing.
use Rattle.std.specs.Prelude.{ℕ, cond, List, [], ◌∷◌, ◌++◌, Ok, Err, count_by, Result, ◌==◌, nat_eq}
use Rattle.checks.specs.declared.error.CheckError.{CheckError}
use Rattle.checks.specs.declared.error.CheckError.TheVariants.{BadReading}
use Rattle.checks.specs.declared.reading.Quantity.{Quantity}
use Rattle.checks.specs.declared.reading.Quantity.TheVariants.{Count, Faults, Flags, GreatestByte, OtherAnswers, OtherNumbers, Points, Position}
use Rattle.checks.specs.declared.reading.Reading.{Reading}
use Rattle.checks.specs.declared.reading.Sent.{Sent}
use Rattle.checks.specs.declared.reading.Sent.TheVariants.{Back, BothRuns, FullTurn, MaximumCurrent, NoCurrent, There, WithTrip, WithoutTrip}
use Rattle.checks.specs.declared.summary.Summary.{Summary}

-- what a good module reads is what is read
abbrev pub reads : Sent → ℕ → Quantity → ℕ → Reading
reads sent motor quantity n = record { sent = sent; motor = motor; quantity = quantity; read = n; good = n }

-- 32 cycles of 200 steps, 8 microsteps a step: 51,200 microsteps are 200 full steps of 256
abbrev pub full_turn : List Reading
full_turn =
    reads FullTurn 1 Count 0
    ∷ reads FullTurn 1 GreatestByte 0
    ∷ reads FullTurn 2 Position 6400
    ∷ reads FullTurn 2 Count 51200
    ∷ []

abbrev pub no_current : List Reading
no_current =
    reads NoCurrent 1 Count 0
    ∷ reads NoCurrent 1 Position 0
    ∷ reads NoCurrent 2 Count 0
    ∷ reads NoCurrent 2 Position 0
    ∷ []

-- the supply has 267 points
abbrev pub maximum_current : List Reading
maximum_current = reads MaximumCurrent 1 Points 167 ∷ reads MaximumCurrent 2 Points 100 ∷ []

-- 512 steps are 4,096 microsteps
abbrev pub there_and_back : List Reading
there_and_back =
    reads There 1 Count 5096
    ∷ reads There 1 Position 512
    ∷ reads Back 1 Count 1000
    ∷ reads Back 1 Position 0
    ∷ []

-- motor 2 takes four words of 200 steps
abbrev pub one_run : Sent → ℕ → List Reading
one_run sent count = reads sent 1 Count count ∷ reads sent 2 Count 6400 ∷ reads sent 2 Flags 0 ∷ reads sent 2 Faults 0 ∷ []

abbrev pub both_runs : List Reading
both_runs = reads BothRuns 2 OtherNumbers 0 ∷ reads BothRuns 2 OtherAnswers 0 ∷ []

-- motor 1 takes four words of 100 steps, or the two before the trip
abbrev pub trip : List Reading
trip = one_run WithoutTrip 3200 ++ one_run WithTrip 1600 ++ both_runs

abbrev pub all_readings : List Reading
all_readings = full_turn ++ no_current ++ maximum_current ++ there_and_back ++ trip

-- how many readings are good
abbrev pub count_good : List Reading → ℕ
count_good xs = count_by (λ x. nat_eq x.read x.good) xs

abbrev pub verdict_on : Summary → Result (Unit {0}) CheckError
verdict_on s = cond (s.good == s.readings) (Ok tt) (Err BadReading)
