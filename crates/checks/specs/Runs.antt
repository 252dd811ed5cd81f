-- The two runs of the trip: their calls, and what is compared of them. Assumes nothing.
use Rattle.std.specs.Prelude.{◌≡◌, ℕ, List, [], ◌∷◌, None, vec_items, Bool}
use Rattle.std.specs.Fn.{CalledAt, Mut}
use Rattle.std.specs.Borrow.{Bor}
use Rattle.checks.specs.Bench.{word_query}
use Rattle.coil.specs.declared.CoilId.TheVariants.{Second}
use Rattle.history.specs.Lists.{events, got, operation, queries}
use Rattle.history.specs.Stands.{Query, Stand}
use Rattle.history.specs.declared.Call.{Call}
use Rattle.history.specs.declared.Entry.{Entry}
use Rattle.history.specs.declared.History.{History}
use Rattle.module.specs.Effects.{report}
use Rattle.std.specs.Option.{option_map, unwrap_or}
use Rattle.registers.specs.declared.Stage.TheVariants.{Running}
use Rattle.step_axis.specs.declared.StepAxis.{StepAxis}
use Rattle.step_axis.specs.declared.config.StepConfig.{StepConfig}

-- a report for motor 1
abbrev pub report_query : ℕ → Query
report_query flags = record { stage = Running; asked = report 1 flags }

-- four cycles, and halfway a report of these flags for motor 1
unfoldable pub trip_calls : ℕ → List Query
trip_calls flags = word_query 0x8064 0x80C8 ∷ word_query 0x8064 0x80C8 ∷ report_query flags ∷ word_query 0x8064 0x80C8 ∷ word_query 0x8064 0x80C8 ∷ []

-- all that a history asks, in order
unfoldable pub asked_in : History → List Query
asked_in h = queries (events h)

-- what is read of one run: motor 1's count, and that motor 2 made its whole move without flags and without a fault
pub record Shows (count : ℕ) (s : Stand StepConfig StepAxis) : Type 0 where
  pub first : s.first.own.count ≡ count
  pub second : s.second.own.count ≡ 6400
  pub flags : s.second.own.flags ≡ 0
  pub fault : s.second.own.fault ≡ None

-- the calls of a running module
abbrev pub calls_in : History → List (Entry Call)
calls_in h = operation (option_map vec_items h.running)

-- motor 2's half of the answer to an accepted cycle
abbrev pub second_answer : Entry Call → List ℕ
second_answer e = unwrap_or (got Second e.call e.ended) []

-- each call of f at two entries answers what the test says of them, and leaves f as it is
abbrev pub Computes : {F : Type 0} → Mut F (Bor (Bor (Entry Call) × Bor (Entry Call)) × Unit {0}) Bool → F → (Entry Call → Entry Call → Bool) → Type 0
Computes {F} g f test = (p : Bor (Entry Call) × Bor (Entry Call)) (answer : Bool) (left : F) → CalledAt g f p answer left → (left ≡ f) × (answer ≡ test p.0.now p.1.now)
