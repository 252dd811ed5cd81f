use Rattle.std.proofs.Common.{w32, rules}
use Rattle.history.proofs.Calls.{once_setting}
use Rattle.std.proofs.lemmas.Int.{to_z-of_z}
use Rattle.history.proofs.SetRegisterModuleCall.make.Goals as goal

pub returns : goal.returns
returns g c = once_setting (to_z-of_z w32 c.args.self.now.value (search rules)) c.setting.ensures.effect
