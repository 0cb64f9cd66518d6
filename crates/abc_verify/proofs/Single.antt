-- A file has one linked file.
use Rattle.std.proofs.Common.{◌≡◌, List, sym, ap, ◌∙◌}
use Rattle.abc_link_layouts.specs.Numbering.{HasLayoutNumbers, numbering}
use Rattle.abc_link_names.specs.declared.part.Part.{Part}
use Rattle.abc_link_names.specs.Linked.{LinkedFile}
use Rattle.abc_file_types.specs.declared.tables.Abc.{Abc}
use Rattle.abc_verify.specs.Verified.{IsVerifiedOf}

abbrev with_parts : Abc → List Part → LinkedFile
with_parts v ps = record { file = v; parts = ps }

-- linked files of one file, both numbered as it is
pub one_numbered : (l m : LinkedFile) → HasLayoutNumbers l → HasLayoutNumbers m → l.file ≡ m.file → l ≡ m
one_numbered l m a b e =
    let parts : l.parts ≡ m.parts = a ∙ ap numbering e ∙ sym b in
    let all : with_parts l.file l.parts ≡ with_parts m.file m.parts = ap (λ (v : Abc). with_parts v l.parts) e ∙ ap (with_parts m.file) parts in
    all

pub one_verified : (v : Abc) (l m : LinkedFile) → IsVerifiedOf v l → IsVerifiedOf v m → l ≡ m
one_verified v l m a b = one_numbered l m a.numbered b.numbered (a.file ∙ sym b.file)
