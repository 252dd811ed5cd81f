-- Chains of driver calls, one after the other.
use Rattle.std.proofs.Common.{◌≡◌, Bool, true, false, cond, List, [], ◌∷◌, ◌++◌, refl, subst}
use Rattle.coil.specs.Chains.{Chain, Did, Tried}
use Rattle.coil.specs.declared.DriverCall.{DriverCall}

pub chain_append : {D : Type 0} (did : Did D) (d e f : D) (xs ys : List DriverCall) → Chain did d xs e → Chain did e ys f → Chain did d (xs ++ ys) f
chain_append did d e f [] ys p q = subst (λ x. Chain did x ys f) p q
chain_append did d e f (x ∷ xs) ys p q = (p.0, (p.1.0, chain_append did p.0 e f xs ys p.1.1 q))

pub chain_join : {D : Type 0} (did : Did D) (d e f : D) (xs ys zs : List DriverCall) → Chain did d xs e → Chain did e ys f → xs ++ ys ≡ zs → Chain did d zs f
chain_join did d e f xs ys zs p q same = subst (λ x. Chain did d x f) same (chain_append did d e f xs ys p q)

pub chain_tried : {D : Type 0} (did : Did D) (declined : Bool) (d d' : D) (call : DriverCall) → Tried did declined d call d' → Chain did d (cond declined [] (call ∷ [])) d'
chain_tried did true d d' call p = p
chain_tried did false d d' call p = (d', (p, refl))
