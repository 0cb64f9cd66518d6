-- Both outcomes of a call, and the starts of an object's slots.
use Rattle.std.proofs.Common.{◌≡◌, ℕ, zero, suc, ◌<◌, List, [], ◌∷◌, Some, length, map, sym, ap, ◌∙◌, arith}
use Rattle.std.specs.Prelude.{slice_get, get_or, option_map, MatchResult}
use Rattle.std.specs.declared.result.Result.{Result}
use Rattle.std.specs.declared.result.Result.TheVariants.{Ok, Err}
use Rattle.std.proofs.lemmas.Option.{slice_get-map}
use Rattle.std.proofs.lemmas.List.{length-map}
use Rattle.abc_heap_values.specs.declared.values.Value.{Value}
use Rattle.abc_link_names.specs.declared.types.SlotInfo.{SlotInfo}
use Rattle.abc_objects.specs.Starts.{start_value, CanStartSlots, IsShortStart}

pub either_way : {T E : Type 0} (X : Type 0) (r : Result T E) (P : T → Type 0) (Q : E → Type 0) → MatchResult r P Q → ((x : T) → P x → X) → ((e : E) → Q e → X) → X
either_way X (Ok x) P Q m f g = f x m
either_way X (Err e) P Q m f g = g e m

pub slot_there : {X : Type 0} (xs : List X) (k : ℕ) (x : X) → k < length xs → get_or xs k x ≡ x → slice_get xs k ≡ Some x
slot_there (y ∷ xs) zero x b e = ap Some e
slot_there (y ∷ xs) (suc k) x b e = slot_there xs k x (omega arith) e
slot_there [] k x b e = absurd (omega arith)

pub starts_short : (pool : List (List ℕ)) (slots : List SlotInfo) (k : ℕ) (s : SlotInfo) → CanStartSlots pool slots → k < length (map (λ (i : SlotInfo). start_value pool i.start) slots) → get_or slots k s ≡ s → IsShortStart pool s.start
starts_short pool slots k s c b e = c.short k s (slot_there slots k s (omega (arith, b, length-map slots (λ (i : SlotInfo). start_value pool i.start))) e)

pub start_read : (pool : List (List ℕ)) (slots : List SlotInfo) (k : ℕ) (s : SlotInfo) (v : Value) → k < length (map (λ (i : SlotInfo). start_value pool i.start) slots) → get_or slots k s ≡ s → v ≡ start_value pool s.start → slice_get (map (λ (i : SlotInfo). start_value pool i.start) slots) k ≡ Some v
start_read pool slots k s v b e q =
    let f = λ (i : SlotInfo). start_value pool i.start in
    slice_get-map f slots k ∙ (ap (option_map f) (slot_there slots k s (omega (arith, b, length-map slots f)) e) ∙ ap Some (sym q))

pub starts_are : (pool strings : List (List ℕ)) (slots own : List SlotInfo) → pool ≡ strings → slots ≡ own → map (λ (i : SlotInfo). start_value pool i.start) slots ≡ map (λ (i : SlotInfo). start_value strings i.start) own
starts_are pool strings slots own p q = ap (λ ss. map (λ (i : SlotInfo). start_value pool i.start) ss) q ∙ ap (λ t. map (λ (i : SlotInfo). start_value t i.start) own) p
