-- What instructions that find names in scopes or make a class do, by their opcodes.
use Rattle.std.proofs.Common.{◌≡◌, ◌∙◌, ℕ, ◌<◌, [], ◌∷◌, length, true, false, refl, sym, ap, subst, zero-add}
use Rattle.std.specs.Prelude.{None, Some}
use Rattle.std.specs.declared.option.Option.{Option}
use Rattle.std.proofs.lemmas.Bool.{ltb-true}
use Rattle.abc_meaning.specs.Scopes as acting
use Rattle.abc_frames.specs.Ready.{HasFrameRoom}
use Rattle.abc_run_names.specs.Named.{name_form_at, name_parts_count, parts_for}
use Rattle.abc_run_values.proofs.Doing.{Does}
use Rattle.abc_run_values.proofs.Opened.{here_of}
use Rattle.abc_run_values.specs.Ready.{CanRun}
use Rattle.abc_link_names.specs.Linked.{LinkedFile}
use Rattle.abc_run_members.specs.Scoped.{finds_or_global_here, finds_strictly_here, makes_class_here}
use Rattle.abc_verify_typing.specs.Rows.{Shape, row_at, table_of_rows}
use Rattle.abc_verify_typing.specs.declared.row.Need.TheVariants as needed
use Rattle.abc_verify_typing.specs.declared.row.Operand.{Operand}
use Rattle.abc_verify_typing.specs.declared.row.Operand.TheVariants.{ClassAt, PlainNameAt}
use Rattle.abc_frames.specs.Frame.{newest}
use Rattle.abc_meaning.specs.Names.{form_of_name}
use Rattle.abc_meaning.specs.Newing as newing
use Rattle.abc_meaning.specs.Table.{act_of, acts}
use Rattle.abc_run_state.specs.Operands.{operand_at}
use Rattle.abc_run_state.specs.Outer.{Outer, setting_in, world}
use Rattle.abc_run_state.specs.declared.state.State.{State}
use Rattle.abc_meaning.specs.Setting.{Setting}
use Rattle.abc_run_members.specs.Supers.{find_and_read}
use Rattle.abc_file_types.specs.declared.code.Instr.TheVariants.{One}
use Rattle.abc_file_types.specs.declared.names.Multiname.{Multiname}
use Rattle.abc_file_types.specs.declared.names.Multiname.TheVariants as names
use Rattle.abc_run_dispatch.proofs.DeletedTaken.{Taking, taken, taking_at}
use Rattle.abc_run_dispatch.proofs.Takes.{no_arguments, one_taken, parts_taken, plain_taken}
use Rattle.abc_verify_typing.specs.Effects.{multiname_at}
use Rattle.abc_verify_typing.specs.Rules.{has_form, in_table, is_plain_multiname}
use Rattle.abc_run_dispatch.proofs.Searching.{global_is, reads_is, strictly_is}

-- ---- findpropstrict, findproperty

strictly_as : (l : LinkedFile) (out : Outer) (s : State) (n : ℕ) (row : Shape) → let p = setting_in l out in let f = newest s.frames in Taking p s.frames (One 0x5D n) (world s out) row acting.finds_strictly 0 (name_parts_count (name_form_at p n)) 1 [] (parts_for (name_form_at p n) 0 f) → Does l out s (One 0x5D n) (name_parts_count (name_form_at p n)) 1 (finds_strictly_here p n f)
strictly_as l out s n row a =
    let p = setting_in l out in
    let f = newest s.frames in
    record { ready = a.ready; does = a.does ∙ strictly_is p (here_of p a.routine f (One 0x5D n) row) f 0 n [] (parts_for (name_form_at p n) 0 f) (world s out) refl }

global_as : (l : LinkedFile) (out : Outer) (s : State) (n : ℕ) (row : Shape) → let p = setting_in l out in let f = newest s.frames in Taking p s.frames (One 0x5E n) (world s out) row acting.finds_or_global 0 (name_parts_count (name_form_at p n)) 1 [] (parts_for (name_form_at p n) 0 f) → Does l out s (One 0x5E n) (name_parts_count (name_form_at p n)) 1 (finds_or_global_here p n f)
global_as l out s n row a =
    let p = setting_in l out in
    let f = newest s.frames in
    record { ready = a.ready; does = a.does ∙ global_is p (here_of p a.routine f (One 0x5E n) row) f 0 n [] (parts_for (name_form_at p n) 0 f) (world s out) refl }

pub op_5D : (l : LinkedFile) (out : Outer) (s : State) (n : ℕ) → CanRun l out s (One 0x5D n) → Does l out s (One 0x5D n) (name_parts_count (name_form_at (setting_in l out) n)) 1 (finds_strictly_here (setting_in l out) n (newest s.frames))
unfolding row_at table_of_rows act_of acts
op_5D l out s n can =
    let p = setting_in l out in
    let f = newest s.frames in
    let k = name_parts_count (name_form_at p n) in
    strictly_as l out s n _ (taken l out s (One 0x5D n) _ _ 0 k 1 [] (parts_for (name_form_at p n) 0 f) can refl refl (no_arguments n) (parts_taken p _ 0 k n f refl refl (zero-add k)) refl)

pub op_5E : (l : LinkedFile) (out : Outer) (s : State) (n : ℕ) → CanRun l out s (One 0x5E n) → Does l out s (One 0x5E n) (name_parts_count (name_form_at (setting_in l out) n)) 1 (finds_or_global_here (setting_in l out) n (newest s.frames))
unfolding row_at table_of_rows act_of acts
op_5E l out s n can =
    let p = setting_in l out in
    let f = newest s.frames in
    let k = name_parts_count (name_form_at p n) in
    global_as l out s n _ (taken l out s (One 0x5E n) _ _ 0 k 1 [] (parts_for (name_form_at p n) 0 f) can refl refl (no_arguments n) (parts_taken p _ 0 k n f refl refl (zero-add k)) refl)

-- ---- getlex, whose name has no parts

plain_count : (p : Setting) (m : Option Multiname) → is_plain_multiname m ≡ true → name_parts_count (form_of_name p m) ≡ 0
plain_count p None e = refl
plain_count p (Some (names.QName false ns i)) e = refl
plain_count p (Some (names.QName true ns i)) e = refl
plain_count p (Some (names.Multi false i set)) e = refl
plain_count p (Some (names.Multi true i set)) e = refl
plain_count p (Some (names.Rt a i)) e = absurd cc
plain_count p (Some (names.RtL a)) e = absurd cc
plain_count p (Some (names.MultiL a set)) e = absurd cc
plain_count p (Some (names.TypeName base params)) e = absurd cc

reads_as : (l : LinkedFile) (out : Outer) (s : State) (n : ℕ) (row : Shape) → row.operand ≡ PlainNameAt → let p = setting_in l out in let f = newest s.frames in Taking p s.frames (One 0x60 n) (world s out) row acting.finds_and_reads 0 0 1 [] (parts_for (name_form_at p n) 0 f) → Does l out s (One 0x60 n) (name_parts_count (name_form_at p n)) 1 (find_and_read p n f)
reads_as l out s n row o a =
    let p = setting_in l out in
    let f = newest s.frames in
    let h = here_of p a.routine f (One 0x60 n) row in
    let ps = parts_for (name_form_at p n) 0 f in
    let zero : name_parts_count (name_form_at p n) ≡ 0 = plain_count p (multiname_at l n) (ap (λ (x : Operand). has_form l x n) (sym o) ∙ a.tests.form) in
    record {
      ready = subst (λ (k : ℕ). HasFrameRoom k 1 s.frames) (sym zero) a.ready;
      does = a.does ∙ ap (λ (k : ℕ). acting.finds_and_reads (taking_at p h f 0 k [] ps) (world s out)) (sym zero) ∙ reads_is p h f 0 n [] ps (world s out) refl;
    }

pub op_60 : (l : LinkedFile) (out : Outer) (s : State) (n : ℕ) → CanRun l out s (One 0x60 n) → Does l out s (One 0x60 n) (name_parts_count (name_form_at (setting_in l out) n)) 1 (find_and_read (setting_in l out) n (newest s.frames))
unfolding row_at table_of_rows act_of acts
op_60 l out s n can =
    let p = setting_in l out in
    let f = newest s.frames in
    reads_as l out s n _ refl (taken l out s (One 0x60 n) _ _ 0 0 1 [] (parts_for (name_form_at p n) 0 f) can refl refl (no_arguments n) (plain_taken p _ 0 n _ f refl refl) refl)

-- ---- newclass

pub record MakesClass (l : LinkedFile) (out : Outer) (s : State) (n : ℕ) : Type 0 where
  pub does : Does l out s (One 0x58 n) 1 1 (makes_class_here (setting_in l out) n (newest s.frames))
  pub class : n < length l.file.instances

makes_as : (l : LinkedFile) (out : Outer) (s : State) (n : ℕ) (row : Shape) → row.operand ≡ ClassAt → Taking (setting_in l out) s.frames (One 0x58 n) (world s out) row newing.makes_class 0 1 1 (operand_at 0 (newest s.frames) ∷ []) [] → MakesClass l out s n
makes_as l out s n row o a = record {
  does = record { ready = a.ready; does = a.does };
  class = ltb-true n (length l.file.instances) (ap (λ (x : Operand). in_table l a.routine x n) (sym o) ∙ a.tests.table);
}

pub op_58 : (l : LinkedFile) (out : Outer) (s : State) (n : ℕ) → CanRun l out s (One 0x58 n) → MakesClass l out s n
unfolding row_at table_of_rows act_of acts
op_58 l out s n can = makes_as l out s n _ refl (taken l out s (One 0x58 n) _ _ 0 1 1 (operand_at 0 (newest s.frames) ∷ []) [] can refl refl (no_arguments n) (λ form. one_taken _ 0 _ (newest s.frames) needed.Value refl tt) refl)
