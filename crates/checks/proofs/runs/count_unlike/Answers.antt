use Rattle.std.proofs.Common.{◌≡◌, ◌∙◌, ◌<◌, ℕ, Result, Ok, Err, min, rules, arith}
use Rattle.std.proofs.lemmas.Iterator.{YieldsList-from_slice, YieldsList-from_zip}
use Rattle.std.proofs.lemmas.Iterator.Consumers.{YieldsList-at, YieldsList-from_filter, count_from_yields_List}
use Rattle.std.proofs.lemmas.List.Sums.{length-filter}
use Rattle.std.specs.List.{zip}
use Rattle.std.specs.Result.{OkIff, result_unwrap_or}
use Rattle.history.specs.declared.Call.{Call}
use Rattle.history.specs.declared.Entry.{Entry}
use Rattle.checks.proofs.runs.count_unlike.Goals as goal

-- a count in 32 bits, or the most that they hold
capped : {E : Type 0} (r : Result ℕ E) (n count : ℕ) → OkIff r (n < 4294967296) n → n ≡ count → result_unwrap_or r 4294967295 ≡ min count 4294967295
capped (Ok v) n count h e = omega (arith, h.0, h.1)
capped (Err d) n count h e = omega (arith, h)

pub returns : goal.returns
returns g c test computes =
    let unlike = λ (p : Entry Call × Entry Call). test p.0 p.1 in
    let pairs = YieldsList-from_zip (YieldsList-from_slice c.args.one.now (search rules)) (YieldsList-from_slice c.args.other.now (search rules)) in
    let filtered = YieldsList-from_filter _ unlike (YieldsList-at c.filter.ensures.source pairs) c.filter.ensures.closure computes in
    c.unwrap_or.ensures ∙ capped c.try_from.result _ _ c.try_from.ensures (count_from_yields_List c.filter.result _ c.count-unlike.ensures.ran filtered ∙ length-filter unlike (zip c.args.one.now c.args.other.now))
