-- The body of a method is one of the file, and the frame keeps what it says.
use Rattle.std.proofs.Common.{◌≡◌, ℕ, ◌-◌, ◌<◌, length, get_or, sym, ap, ◌∙◌}
use Rattle.std.specs.Prelude.{Some}
use Rattle.std.proofs.lemmas.List.{get_or_default}
use Rattle.abc_link_names.specs.PartsByNumber.{body_at, no_body, no_script, script_at}
use Rattle.abc_link_names.specs.Owners.{body_of}
use Rattle.abc_link_names.proofs.MethodBodies.{body_inside}
use Rattle.abc_frames.specs.declared.records.Size.{Size}
use Rattle.abc_run_state.specs.Turns.{size_of_routine}
use Rattle.abc_file_types.specs.declared.classes.Script.{Script}
use Rattle.abc_file_types.specs.declared.code.Body.{Body}
use Rattle.abc_file_types.specs.declared.tables.Abc.{Abc}
use Rattle.abc_meaning.specs.Setting.{Setting, routine_in, routine_of}

abbrev pub sized : Body → (scopes : ℕ) → Size
sized b n = record { locals = b.local_count; stack = b.max_stack; scopes = n }

abbrev pub size_in : Body → Size
size_in b = sized b (b.max_scope - b.init_scope)

pub size_is : (p : Setting) (n b : ℕ) (body : Body) → body_of p.linked.file n ≡ Some b → get_or p.linked.file.bodies b body ≡ body → size_in body ≡ size_of_routine (routine_of p n)
size_is p n b body e is =
    let same : body_at p.linked.file b ≡ body = get_or_default p.linked.file.bodies b no_body body (body_inside p.linked.file n b e) ∙ is in
    sym (ap (λ x. size_of_routine (routine_in p x)) e ∙ ap size_in same)

-- ---- the init of a script

pub init_is : (v : Abc) (s : ℕ) (x : Script) → s < length v.scripts → get_or v.scripts s x ≡ x → x.init ≡ (script_at v s).init
init_is v s x lt e = ap (λ (y : Script). y.init) (sym (get_or_default v.scripts s no_script x lt ∙ e))
