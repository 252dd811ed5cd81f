use Rattle.std.proofs.Common.{◌≡◌, ap, ◌∙◌}
use Rattle.checks.proofs.Sending.{set_bench, set_number}
use Rattle.checks.specs.Bench.{bench, fresh, maximum_set, prepared}
use Rattle.checks.proofs.set_maximum.Goals as goal

pub returns : goal.returns
unfolding fresh maximum_set prepared
returns c =
    let first : bench c.setting.new.self.inner ≡ prepared 35 167 (fresh 0 0) = set_bench 35 167 c.args.prepared.now.inner c.setting.new.self.inner c.setting.result c.setting.ensures.effect ∙ ap (prepared 35 167) c.requires in
    record {
      after = set_bench 38 167 c.setting.new.self.inner c.setting-2.new.self.inner c.setting-2.result c.setting-2.ensures.effect ∙ ap (prepared 38 167) first;
      answer = set_number 38 167 (prepared 35 167 (fresh 0 0)) c.setting.new.self.inner c.setting-2.new.self.inner c.setting-2.result first c.setting-2.ensures.effect;
    }
