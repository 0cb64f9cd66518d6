-- Each part of the bodies is exact.
use Rattle.std.proofs.Common.{ℕ, List, []}
use Rattle.abc_file_types.specs.Law.{Exact}
use Rattle.abc_file_types.specs.Part.{Part}
use Rattle.abc_file_types.proofs.Exact.{image-exact, both-exact, checked-exact, then-exact, chain-exact}
use Rattle.abc_file_types.proofs.Numbers.{u30-exact, index_below-exact, pool_index-exact, counted-exact}
use Rattle.abc_file_types.specs.declared.tables.Abc.{Abc}
use Rattle.abc_file_types.specs.declared.tables.Sizes.{Sizes}
use Rattle.abc_file_types.specs.Bodies.{handler, body_method, body_with, body, body_list, bodies, methods_of}
use Rattle.abc_file_types.specs.Classes.{sizes_of}
use Rattle.abc_file_types.proofs.CodeExact.{code-exact}
use Rattle.abc_file_types.proofs.CodeParts.{instruction_place-exact}
use Rattle.abc_file_types.proofs.Exactness.{trait_info-exact}

pub handler-exact : (v : Sizes) (starts : List ℕ) → Exact (handler v starts)
unfolding handler
handler-exact v starts =
    image-exact _ _ (both-exact _ _ (instruction_place-exact starts) (both-exact _ _ (instruction_place-exact starts) (both-exact _ _ (instruction_place-exact starts)
    (both-exact _ _ (pool_index-exact v.names) (pool_index-exact v.names)))))

pub body_method-exact : (v : Sizes) (taken : List ℕ) → Exact (body_method v taken)
unfolding body_method
body_method-exact v taken = checked-exact _ _ _ (index_below-exact v.methods)

pub body_with-exact : (v : Sizes) (method : Part ℕ) → Exact method → Exact (body_with v method)
unfolding body_with
body_with-exact v method exact =
    image-exact _ _ (both-exact _ _ exact (both-exact _ _ u30-exact (both-exact _ _ u30-exact (both-exact _ _ u30-exact (both-exact _ _ u30-exact
    (then-exact _ _ code-exact (λ c. both-exact _ _ (counted-exact _ (handler-exact v c.offsets)) (counted-exact _ (trait_info-exact v)))))))))

pub body-exact : (v : Sizes) (taken : List ℕ) → Exact (body v taken)
unfolding body
body-exact v taken = body_with-exact v (body_method v taken) (body_method-exact v taken)

pub body_list-exact : (v : Sizes) → Exact (body_list v)
unfolding body_list
body_list-exact v = image-exact _ _ (then-exact _ _ u30-exact (λ n. chain-exact n _ [] (λ before. body-exact v (methods_of before))))

pub bodies-exact : (abc : Abc) → Exact (bodies abc)
unfolding bodies
bodies-exact abc = image-exact _ _ (body_list-exact (sizes_of abc))
