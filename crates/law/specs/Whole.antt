-- A run of the public call, as the law reads it. Assumes nothing.
use Rattle.axis.specs.Kinds.{Kind}
use Rattle.coil.specs.Meaning.{Coils}
use Rattle.history.specs.Lists.{events, preparation, queries, running, tolds}
use Rattle.history.specs.declared.History.{History}
use Rattle.law.specs.Law.{Run}
use Rattle.law.specs.declared.FunctionModel.{FunctionModel}
use Rattle.module.specs.Share.{share}
use Rattle.module.specs.declared.inner.Inner.{Inner}
use Rattle.std.specs.Option.{option_map}

-- the run of a history over the driver d, by a kind of axis of a function model: h is the history before it and g after it, x the module at the end
abbrev pub whole : {C A D : Type 0} → FunctionModel → Kind C A → (D → Coils) → D → History → History → Inner A D C → Run
whole model kind meaning d h g x = record {
  model = model;
  first = meaning d;
  last = meaning x.driver;
  settings = queries (preparation h);
  calls = option_map queries (running h);
  told = tolds (events g);
  fault = λ i. (share kind meaning x i).fault;
}
