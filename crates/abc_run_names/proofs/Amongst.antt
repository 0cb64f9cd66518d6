-- Whether an object is among the delegates, one after the other.
use Rattle.std.proofs.Common.{◌≡◌, ℕ, Some, None, nat_eq, true, false, sym, ap, ◌∙◌, ◌||◌}
use Rattle.std.specs.List.{list_any}
use Rattle.std.specs.declared.option.Option.{Option}
use Rattle.abc_base_graphs.specs.Ways.{IsFalling, way}
use Rattle.abc_base_graphs.proofs.Walks.{way_none, way_some}
use Rattle.abc_heap_store.specs.Heap.{Heap}
use Rattle.abc_objects.specs.Objects.{delegate_at}

any_step : (h : Heap) (o x : ℕ) → IsFalling (delegate_at h) → list_any (nat_eq o) (way (delegate_at h) (Some x)) ≡ nat_eq o x || list_any (nat_eq o) (way (delegate_at h) (delegate_at h x))
any_step h o x f = ap (list_any (nat_eq o)) (way_some (delegate_at h) f x)

pub any_end : (h : Heap) (o : ℕ) (at : Option ℕ) → at ≡ None → list_any (nat_eq o) (way (delegate_at h) at) ≡ false
any_end h o at e = ap (λ a. list_any (nat_eq o) (way (delegate_at h) a)) e ∙ ap (list_any (nat_eq o)) (way_none (delegate_at h))

pub any_next : (h : Heap) (o x : ℕ) (at next : Option ℕ) → IsFalling (delegate_at h) → at ≡ Some x → nat_eq o x ≡ false → next ≡ delegate_at h x
    → list_any (nat_eq o) (way (delegate_at h) next) ≡ list_any (nat_eq o) (way (delegate_at h) at)
any_next h o x at next f is other up =
    ap (λ a. list_any (nat_eq o) (way (delegate_at h) a)) up
    ∙ ap (λ b. b || list_any (nat_eq o) (way (delegate_at h) (delegate_at h x))) (sym other)
    ∙ sym (any_step h o x f)
    ∙ ap (λ a. list_any (nat_eq o) (way (delegate_at h) a)) (sym is)

pub any_here : (h : Heap) (o x : ℕ) (at : Option ℕ) → IsFalling (delegate_at h) → at ≡ Some x → nat_eq o x ≡ true → true ≡ list_any (nat_eq o) (way (delegate_at h) at)
any_here h o x at f is e =
    ap (λ b. b || list_any (nat_eq o) (way (delegate_at h) (delegate_at h x))) (sym e)
    ∙ sym (any_step h o x f)
    ∙ ap (λ a. list_any (nat_eq o) (way (delegate_at h) a)) (sym is)
