-- A namespace is equal to itself.
use Rattle.std.proofs.Common.{◌≡◌, ℕ, Bool, true, false, ◌&&◌, cond, nat_eq, eq-eqb, refl, sym, ap, ◌∙◌}
use Rattle.std.specs.Str.{bytes_eq}
use Rattle.abc_base_graphs.proofs.Numbering.{bytes_self}
use Rattle.abc_link_names.specs.Pool.{is_private, same_space, shared_code, space, text}
use Rattle.abc_file_types.specs.declared.tables.Abc.{Abc}

same_self : (v : Abc) (a : ℕ) → same_space v a a ≡ true
same_self v a = go (is_private (space v a).kind)
  where
    go : (b : Bool) → cond b (nat_eq a a) (nat_eq (shared_code (space v a).kind) (shared_code (space v a).kind) && bytes_eq (text v (space v a).name) (text v (space v a).name)) ≡ true
    go true = eq-eqb a a refl
    go false = ap (λ c. c && bytes_eq (text v (space v a).name) (text v (space v a).name)) (eq-eqb (shared_code (space v a).kind) (shared_code (space v a).kind) refl) ∙ bytes_self (text v (space v a).name)

pub same_where_equal : (v : Abc) (a b : ℕ) → a ≡ b → true ≡ same_space v a b
same_where_equal v a b e = sym (ap (same_space v a) (sym e) ∙ same_self v a)
