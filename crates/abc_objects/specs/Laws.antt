-- What a reader would check of the searches.
use Rattle.std.specs.Prelude.{◌≡◌, ◌⊎◌, ℕ, ◌<◌, length, List, [], ◌∷◌, ◌++◌, Bool, true, false, map, slice_get, Some, None, if◌then◌else◌}
use Rattle.std.specs.declared.option.Option.{Option}
use Rattle.std.specs.List.{list_any}
use Rattle.abc_heap_values.specs.declared.values.ObjId.{ObjId}
use Rattle.abc_heap_values.specs.declared.values.Value.{Value}
use Rattle.abc_heap_values.specs.declared.values.Value.TheVariants as values
use Rattle.abc_heap_store.specs.Heap.{Heap, elements_of, object_at, properties_of}
use Rattle.abc_heap_store.specs.What.{is_array}
use Rattle.abc_heap_values.specs.declared.values.Span.{Span}
use Rattle.abc_heap_store.specs.declared.records.ScopeEntry.{ScopeEntry}
use Rattle.abc_heap_store.specs.declared.records.ScopeId.{ScopeId}
use Rattle.abc_link_names.specs.Linked.{IsLinkedFile, LinkedFile}
use Rattle.abc_link_names.specs.Owners.{owner_of}
use Rattle.abc_link_names.specs.Slots.{slots_of}
use Rattle.abc_link_names.specs.Traits.{own_table_of}
use Rattle.abc_link_names.specs.Tree.{IsBelow}
use Rattle.abc_file_types.specs.declared.traits.TraitBody.{TraitBody}
use Rattle.abc_file_types.specs.declared.traits.TraitBody.TheVariants as bodies
use Rattle.abc_file_types.specs.declared.traits.TraitInfo.{TraitInfo}
use Rattle.abc_objects.specs.Candidates.{Candidate, OfTrait, answer_of_search, fits, found_candidate, is_answer, layout_at, text_of_span, traits_on}
use Rattle.abc_objects.specs.Results.{skip_for}
use Rattle.abc_objects.specs.Scopes.{ScopePlace, has, scope_places, scope_named}
use Rattle.abc_objects.specs.Searches.{declared_found, found_in_scopes, found_on}
use Rattle.abc_objects.specs.Spaces.{name_holds_public}
use Rattle.abc_objects.specs.Traits.{own}
use Rattle.abc_objects.specs.declared.found.Found.{Found}
use Rattle.abc_objects.specs.declared.found.Found.TheVariants as founds
use Rattle.abc_objects.specs.declared.found.ScopeFound.TheVariants as results
use Rattle.abc_objects.specs.declared.found.Skip.{Skip}
use Rattle.abc_objects.specs.declared.found.Want.{Want}
use Rattle.abc_objects.specs.declared.name.Name.{Name}

-- one of a list passes a test, and none before it does
pub record IsFirstThat {X : Type 0} (test : X → Bool) (xs : List X) (x : X) : Type 0 where
  pub before : List X
  pub after : List X
  pub parts : xs ≡ before ++ x ∷ after
  pub passes : test x ≡ true
  pub none : list_any test before ≡ false

-- a search answers its first candidate that fits and is not passed over;
-- where none is, it answers WrongSide if some candidate fits, else Missing
abbrev pub AnswersTheFirst : Type 0
AnswersTheFirst = (l : LinkedFile) (h : Heap) (n : Name) (s : Skip) (cs : List Candidate) →
    ((c : Candidate) × IsFirstThat (is_answer l h n s) cs c × (answer_of_search l h n s cs ≡ found_candidate l c))
    ⊎ ((list_any (is_answer l h n s) cs ≡ false) × (answer_of_search l h n s cs ≡ (if list_any (fits l h n) cs then founds.WrongSide else founds.Missing)))

-- a search in scopes finds the first place that has the name; where none has it, it answers Missing
abbrev pub FindsTheFirstPlace : Type 0
FindsTheFirstPlace = (l : LinkedFile) (h : Heap) (scopes : List ScopeEntry) (saved : Option ScopeId) (started : List Bool) (n : Name) →
    ((p : ScopePlace) × IsFirstThat (has l h n) (scope_places l h scopes saved) p × (found_in_scopes l h scopes saved started n ≡ scope_named h started (Some p)))
    ⊎ ((list_any (has l h n) (scope_places l h scopes saved) ≡ false) × (found_in_scopes l h scopes saved started n ≡ results.Missing))

-- by a name without the public namespace, a search on a value finds declared traits alone
abbrev pub FindsTraitsAlone : Type 0
FindsTraitsAlone = (l : LinkedFile) (h : Heap) (v : Value) (n : Name) (want : Want) → name_holds_public l n.spaces ≡ false → found_on l h v n want ≡ answer_of_search l h n (skip_for want) (traits_on l h v)

-- the own traits of a layout, for an object of that layout
abbrev pub own_candidates : LinkedFile → ℕ → List Candidate
own_candidates l x = map (OfTrait x (x ∷ [])) (own l x)

-- where a layout has an own trait that a name finds, the traits of its bases are not asked
abbrev pub HidesItsBase : Type 0
HidesItsBase = (l : LinkedFile) (h : Heap) (x : ℕ) (n : Name) (want : Want) → list_any (is_answer l h n (skip_for want)) (own_candidates l x) ≡ true → declared_found l h x x n want ≡ answer_of_search l h n (skip_for want) (own_candidates l x)

-- which declared traits a name finds depends on its text, and on no object
abbrev pub AsksNoObject : Type 0
AsksNoObject = (l : LinkedFile) (h k : Heap) (object from : ℕ) (n : Name) (want : Want) → text_of_span l h n.text ≡ text_of_span l k n.text → declared_found l h object from n want ≡ declared_found l k object from n want

-- a slot that is found is one of a layout
abbrev pub IsSlotOf : LinkedFile → ℕ → Found → Type 0
IsSlotOf l x (founds.Slot k constant) = k < length (slots_of l x)
IsSlotOf l x other = Unit {0}

-- among declared traits it is one of the layout from which the search begins; on an object, one of the object's layout
abbrev pub FindsASlot : Type 0
FindsASlot = (l : LinkedFile) → IsLinkedFile l → (h : Heap) (object from : ℕ) (n : Name) (want : Want) → IsSlotOf l from (declared_found l h object from n want)

-- a slot that is found on an object is one of the object's layout
abbrev pub FindsOwnSlots : Type 0
FindsOwnSlots = (l : LinkedFile) → IsLinkedFile l → (h : Heap) (o : ObjId) (n : Name) (want : Want) → IsSlotOf l (layout_at h o.0) (found_on l h (values.Obj o) n want)

-- the method that a trait names, where it is run
abbrev pub method_when_run : TraitBody → Option ℕ
method_when_run (bodies.Method disp m) = Some m
method_when_run (bodies.Getter disp m) = Some m
method_when_run (bodies.Setter disp m) = Some m
method_when_run other = None

-- a trait of a layout's own table names the method
pub record HasMethod (l : LinkedFile) (x m : ℕ) : Type 0 where
  pub place : ℕ
  pub trait : TraitInfo
  pub at : slice_get (own_table_of l x) place ≡ Some trait
  pub names : method_when_run trait.body ≡ Some m

-- so does one of a layout, or of one above it
abbrev pub HasMethodAbove : LinkedFile → ℕ → ℕ → Type 0
HasMethodAbove l x m = (y : ℕ) × IsBelow l x y × HasMethod l y m

-- a method that is found is named by a trait of the layout or of one above it
abbrev pub IsMethodOf : LinkedFile → ℕ → Found → Type 0
IsMethodOf l x (founds.Method owner m) = (owner ≡ owner_of l.file m) × HasMethodAbove l x m
IsMethodOf l x (founds.Getter m) = HasMethodAbove l x m
IsMethodOf l x (founds.Setter m) = HasMethodAbove l x m
IsMethodOf l x other = Unit {0}

-- a method found among declared traits is named by a trait of the layout from which the search begins, or of one above it
abbrev pub FindsAMethod : Type 0
FindsAMethod = (l : LinkedFile) (h : Heap) (object from : ℕ) (n : Name) (want : Want) → IsMethodOf l from (declared_found l h object from n want)

-- a method that is found on an object is named by a trait of the object's layout, or of one above it
abbrev pub FindsOwnMethods : Type 0
FindsOwnMethods = (l : LinkedFile) (h : Heap) (o : ObjId) (n : Name) (want : Want) → IsMethodOf l (layout_at h o.0) (found_on l h (values.Obj o) n want)

-- a property, an element or a length that is found is its holder's
abbrev pub IsFoundPresent : Heap → Found → Type 0
IsFoundPresent h (founds.Property holder x) = (k : ℕ) × (n : Span) × (slice_get (properties_of h.objects holder.0) k ≡ Some (Some (n, x)))
IsFoundPresent h (founds.Element holder k) = (x : Value) × (slice_get (elements_of h.objects holder.0) k ≡ Some x)
IsFoundPresent h (founds.Length holder) = is_array (object_at h.objects holder.0).what ≡ true
IsFoundPresent h other = Unit {0}

-- a property, an element or a length that is found on a value is its holder's
abbrev pub FindsWhatIsThere : Type 0
FindsWhatIsThere = (l : LinkedFile) (h : Heap) (v : Value) (n : Name) (want : Want) → IsFoundPresent h (found_on l h v n want)
