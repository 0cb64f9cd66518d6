-- The code of the method that runs.
use Rattle.std.proofs.Common.{◌≡◌, ℕ, List, get_or, refl, sym, ap, ◌∙◌}
use Rattle.std.specs.Prelude.{None, Some}
use Rattle.std.specs.declared.option.Option.{Option}
use Rattle.std.proofs.lemmas.List.{get_or_default}
use Rattle.abc_link_names.proofs.MethodBodies.{body_inside}
use Rattle.abc_link_names.specs.PartsByNumber.{body_at, no_body}
use Rattle.abc_run_dispatch.proofs.Bodied.{routine_is}
use Rattle.abc_link_names.specs.Linked.{LinkedFile}
use Rattle.abc_run_dispatch.specs.Held.{code_in}
use Rattle.abc_link_names.specs.Owners.{body_of}
use Rattle.abc_meaning.specs.Setting.{Setting, routine_in, routine_of}
use Rattle.abc_file_types.specs.declared.code.Body.{Body}
use Rattle.abc_file_types.specs.declared.code.Instr.{Instr}
use Rattle.abc_verify_typing.specs.Routines.{Routine}

-- without a body nothing runs
pub no_routine : (p : Setting) (n : ℕ) (r : Routine) → routine_of p n ≡ Some r → body_of p.linked.file n ≡ None → ⊥
no_routine p n r e q = let two : Some r ≡ None = sym e ∙ ap (routine_in p) q in cc

pub code_is : (l : LinkedFile) (n b : ℕ) (body : Body) → body_of l.file n ≡ Some b → get_or l.file.bodies b body ≡ body → (body_at l.file b).code ≡ body.code
code_is l n b body q is = ap (λ (x : Body). x.code) (get_or_default l.file.bodies b no_body body (body_inside l.file n b q) ∙ is)

-- what is held is what a routine runs
pub code_held : (p : Setting) (n : ℕ) (r : Routine) (code : List Instr) → routine_of p n ≡ Some r → code ≡ code_in p.linked (body_of p.linked.file n) → r.code ≡ code
code_held p n r code e held = go (body_of p.linked.file n) refl
  where
    go : (b : Option ℕ) → body_of p.linked.file n ≡ b → r.code ≡ code
    go None q = absurd (no_routine p n r e q)
    go (Some b) q = ap (λ (x : Routine). x.code) (routine_is p n b r e q) ∙ sym (held ∙ ap (code_in p.linked) q)
