-- What the bridge driver means. Assumes nothing.
use Rattle.coil.specs.Kept.{coils_of}
use Rattle.coil.specs.Meaning.{Coils}
use Rattle.bridge.specs.declared.driver.BridgeDriver.{BridgeDriver}

-- the meaning of the coils that it keeps
abbrev pub bridge_meaning : BridgeDriver → Coils
bridge_meaning d = coils_of d.coils
