-- The body of a method is one of the file, and it is of that method.
use Rattle.std.proofs.Common.{◌≡◌, ℕ, ◌<◌, length, nat_eq, eqb-true, sym, ◌∙◌, arith}
use Rattle.std.specs.Prelude.{Some}
use Rattle.std.proofs.lemmas.List.{get_or-map, length-map}
use Rattle.abc_file_types.specs.declared.code.Body.{Body}
use Rattle.abc_file_types.specs.declared.tables.Abc.{Abc}
use Rattle.abc_link_names.specs.Methods.{methods_with_bodies}
use Rattle.abc_link_names.specs.PartsByNumber.{body_at, no_body}
use Rattle.abc_link_names.proofs.ItemsPairs.{first_hit}
use Rattle.abc_link_names.specs.Owners.{body_of}

pub body_inside : (v : Abc) (m b : ℕ) → body_of v m ≡ Some b → b < length v.bodies
body_inside v m b e =
    let hit = first_hit (nat_eq m) (methods_with_bodies v) 0 b e in
    let many : length (methods_with_bodies v) ≡ length v.bodies = length-map v.bodies (λ (x : Body). x.method) in
    let within = hit.0 in
    omega (arith, within, many)

pub body_is_of : (v : Abc) (m b : ℕ) → body_of v m ≡ Some b → (body_at v b).method ≡ m
body_is_of v m b e =
    let hit = first_hit (nat_eq m) (methods_with_bodies v) 0 b e in
    sym (get_or-map (λ (x : Body). x.method) v.bodies b no_body 0 (body_inside v m b e)) ∙ sym (eqb-true m _ hit.1)
