-- Parts that have to find something.
use Rattle.std.proofs.Common.{◌≡◌, refl, ap, subst}
use Rattle.std.specs.Prelude.{None, Some, IsSome}
use Rattle.std.specs.declared.option.Option.{Option}
use Rattle.abc_run_state.specs.Stops.{IsOpen}
use Rattle.abc_meaning.specs.World.{Outcome, Run, Went, World, and_then, some}

-- it is there
pub some_open : {X Y : Type 0} (x : Option X) (k : X → Run Y) (w : World) → IsOpen (and_then (some x w) k) → IsSome x
some_open None k w h = absurd h
some_open (Some x) k w h = refl

-- and what follows goes on with it
pub some_is : {X Y : Type 0} (x : Option X) (y : X) (k : X → Run Y) (w : World) → x ≡ Some y → and_then (some x w) k ≡ k y w
some_is x y k w e = ap (λ o. and_then (some o w) k) e

pub some_goes : {X Y : Type 0} (x : Option X) (y : X) (k : X → Run Y) (w : World) → x ≡ Some y → IsOpen (and_then (some x w) k) → IsOpen (k y w)
some_goes {Y = Y} x y k w e h = subst (λ (o : Outcome Y). IsOpen o) (some_is x y k w e) h

-- by what the first comes to
pub then_is : {X Y : Type 0} (o : Outcome X) (k : X → Run Y) (w : World) (x : X) → o ≡ Went w x → and_then o k ≡ k x w
then_is o k w x e = ap (λ q. and_then q k) e
