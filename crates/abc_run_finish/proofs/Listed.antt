-- The numbers of a call, as a list of values.
use Rattle.std.proofs.Common.{◌≡◌, ℕ, zero, suc, ℤ, ◌<◌, ◌^◌, List, [], ◌∷◌, length, take, sym, ap, ◌∙◌, subst, arith}
use Rattle.std.proofs.lemmas.List.{length-map, length-take, take-map}
use Rattle.abc_base.specs.Hosts.{plain_arguments}
use Rattle.abc_base.specs.Ranges.{IsNumber}
use Rattle.abc_base.specs.declared.plain.Plain.{Plain}
use Rattle.abc_meaning.specs.Calls.{numbers}
use Rattle.abc_heap_store.specs.Heap.{Heap}
use Rattle.abc_heap_values.specs.declared.values.Value.{Value}
use Rattle.abc_heap_values.specs.declared.values.Value.TheVariants.{Num}
use Rattle.abc_link_names.specs.Linked.{LinkedFile}
use Rattle.abc_objects.specs.Stands.{EachAt}
use Rattle.abc_objects.specs.Values.{Exists}
use Rattle.abc_meaning.specs.Setting.{Setting}
use Rattle.abc_meaning.specs.World.{World}
use Rattle.abc_verify_typing.specs.Lists.{Each}

-- the first so many of the four
pub first_listed : (args : Plain) (four given : List Value) → four ≡ numbers (args.a ∷ args.b ∷ args.c ∷ args.d ∷ []) → given ≡ take args.count four → given ≡ numbers (plain_arguments args)
first_listed args four given is e = e ∙ ap (λ (vs : List Value). take args.count vs) is ∙ take-map Num args.count (args.a ∷ args.b ∷ args.c ∷ args.d ∷ [])

pub each_take : {X : Type 0} (P : X → Type 0) (k : ℕ) (xs : List X) → Each P xs → Each P (take k xs)
each_take P zero xs h = tt
each_take P (suc k) [] h = tt
each_take P (suc k) (x ∷ xs) h = (h.0, each_take P k xs h.1)

pub each_number : (args : Plain) → Each IsNumber (plain_arguments args)
each_number args = each_take IsNumber args.count (args.a ∷ args.b ∷ args.c ∷ args.d ∷ []) (args.first, (args.second, (args.third, (args.fourth, tt))))

numbers_exist : (l : LinkedFile) (h : Heap) (ns : List ℤ) → Each IsNumber ns → EachAt (Exists l h) (numbers ns)
numbers_exist l h [] each k v e = absurd cc
numbers_exist l h (n ∷ ns) each zero v e = let q : Num n ≡ v = cc in subst (Exists l h) q each.0
numbers_exist l h (n ∷ ns) each (suc k) v e = numbers_exist l h ns each.1 k v e

pub given_exist : (p : Setting) (w : World) (args : Plain) (given : List Value) → given ≡ numbers (plain_arguments args) → EachAt (Exists p.linked w.heap) given
given_exist p w args given e = subst (λ (vs : List Value). EachAt (Exists p.linked w.heap) vs) (sym e) (numbers_exist p.linked w.heap (plain_arguments args) (each_number args))

pub few_given : (args : Plain) (given : List Value) → given ≡ numbers (plain_arguments args) → length given < 2 ^ 32
few_given args given e =
    let long = ap (λ (vs : List Value). length vs) e in
    let same = length-map (plain_arguments args) Num in
    let taken = length-take args.count (args.a ∷ args.b ∷ args.c ∷ args.d ∷ []) in
    let few = args.few in
    omega (arith, long, same, taken, few)
