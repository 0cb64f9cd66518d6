-- Names of the pool, and what they leave to be taken from the stack.
use Rattle.std.proofs.Common.{◌≡◌, ◌∙◌, ℕ, ◌+◌, ◌-◌, ◌<◌, ◌≤◌, Bool, true, false, cond, length, refl, sym, ap, subst, arith}
use Rattle.std.specs.Prelude.{MatchOption, Some, None, if◌then◌else◌, slice_get}
use Rattle.std.specs.declared.option.Option.{Option}
use Rattle.std.proofs.lemmas.Bool.{lt-ltb}
use Rattle.std.proofs.lemmas.Option.{get_or_from_slice_get, slice_get_within}
use Rattle.abc_heap_values.specs.declared.values.Span.{Span}
use Rattle.abc_tables.specs.Fitting.{FitsMultiname}
use Rattle.abc_tables.proofs.Combined.{pool_index_fits}
use Rattle.abc_tables.proofs.FileFits.{file_fits, tables_fit}
use Rattle.abc_tables.proofs.PoolsFit.{HasFields, multiname_fits, multinames_fit, pools_fit}
use Rattle.abc_heap_store.specs.Heap.{Heap}
use Rattle.abc_heap_store.specs.Texts.{IsText}
use Rattle.abc_ops.proofs.Staying.{string_there}
use Rattle.abc_link_names.specs.Linked.{IsLinkedFile, LinkedFile}
use Rattle.abc_objects.specs.declared.name.Name.{Name}
use Rattle.abc_objects.specs.declared.name.Spaces.{Spaces}
use Rattle.abc_objects.specs.declared.name.Spaces.TheVariants as spaces
use Rattle.abc_frames.specs.Frame.{Frame}
use Rattle.abc_file_types.specs.Classes.{sizes_of}
use Rattle.abc_file_types.specs.declared.names.Multiname.{Multiname}
use Rattle.abc_file_types.specs.declared.names.Multiname.TheVariants as names
use Rattle.abc_file_types.specs.declared.tables.Sizes.{Sizes}
use Rattle.abc_verify_typing.specs.Effects.{multiname_at}
use Rattle.abc_meaning.specs.Names.{form_of_name}
use Rattle.abc_meaning.specs.Setting.{NameForm, NoPart, NoSpace, NoText, Setting, Whole, name_form, spaces_for, string_of}
use Rattle.abc_run_names.specs.declared.runtime_names.Form.{Form}
use Rattle.abc_run_names.specs.declared.runtime_names.Form.TheVariants as forms
use Rattle.abc_run_names.specs.Form.{HasString, HasFormText, name_form_of, forms_of}
use Rattle.abc_run_names.specs.Named.{HasNameParts, name_form_at, name_parts_count}

-- ---- one name, by what the code makes of its parts

abbrev unless : Bool → Form → Option Form
unless b f = if b then None else Some f

abbrev whole : Spaces → Span → Form
whole of t = forms.Whole (record { spaces = of; text = t })

pub qname_is : (p : Setting) (m : Multiname) (b : Bool) (ns i : ℕ) (of : Spaces) (t : Span) (r : Option Form) → m ≡ names.QName b ns i → of ≡ spaces_for ns → t ≡ string_of p i → r ≡ unless b (whole of t) → forms_of r ≡ name_form p m
qname_is p m b ns i of t r is e f g =
    ap forms_of g ∙ ap (λ x. forms_of (unless b (whole x t))) e ∙ ap (λ x. forms_of (unless b (whole (spaces_for ns) x))) f ∙ go b ∙ ap (name_form p) (sym is)
  where
    go : (c : Bool) → forms_of (unless c (whole (spaces_for ns) (string_of p i))) ≡ name_form p (names.QName c ns i)
    go true = refl
    go false = refl

pub multi_is : (p : Setting) (m : Multiname) (b : Bool) (i set : ℕ) (t : Span) (r : Option Form) → m ≡ names.Multi b i set → t ≡ string_of p i → r ≡ unless b (whole (spaces.Set set) t) → forms_of r ≡ name_form p m
multi_is p m b i set t r is f g =
    ap forms_of g ∙ ap (λ x. forms_of (unless b (whole (spaces.Set set) x))) f ∙ go b ∙ ap (name_form p) (sym is)
  where
    go : (c : Bool) → forms_of (unless c (whole (spaces.Set set) (string_of p i))) ≡ name_form p (names.Multi c i set)
    go true = refl
    go false = refl

pub rt_is : (p : Setting) (m : Multiname) (b : Bool) (i : ℕ) (t : Span) (r : Option Form) → m ≡ names.Rt b i → t ≡ string_of p i → r ≡ unless b (forms.NoSpace t) → forms_of r ≡ name_form p m
rt_is p m b i t r is f g =
    ap forms_of g ∙ ap (λ x. forms_of (unless b (forms.NoSpace x))) f ∙ go b ∙ ap (name_form p) (sym is)
  where
    go : (c : Bool) → forms_of (unless c (forms.NoSpace (string_of p i))) ≡ name_form p (names.Rt c i)
    go true = refl
    go false = refl

pub multil_is : (p : Setting) (m : Multiname) (b : Bool) (set : ℕ) (r : Option Form) → m ≡ names.MultiL b set → r ≡ unless b (forms.NoText (spaces.Set set)) → forms_of r ≡ name_form p m
multil_is p m b set r is g = ap forms_of g ∙ go b ∙ ap (name_form p) (sym is)
  where
    go : (c : Bool) → forms_of (unless c (forms.NoText (spaces.Set set))) ≡ name_form p (names.MultiL c set)
    go true = refl
    go false = refl

pub rtl_is : (p : Setting) (m : Multiname) (b : Bool) (r : Option Form) → m ≡ names.RtL b → r ≡ unless b forms.NoPart → forms_of r ≡ name_form p m
rtl_is p m b r is g = ap forms_of g ∙ go b ∙ ap (name_form p) (sym is)
  where
    go : (c : Bool) → forms_of (unless c forms.NoPart) ≡ name_form p (names.RtL c)
    go true = refl
    go false = refl

-- ---- the name of an instruction

pub form_none : (p : Setting) (n : ℕ) → n ≡ 0 → name_form_at p n ≡ None
form_none p n e = ap (name_form_at p) e

form_there : (p : Setting) (n : ℕ) → 0 < n → name_form_at p n ≡ form_of_name p (slice_get p.linked.file.names (n - 1))
form_there p n b = ap (λ t. form_of_name p (cond t (slice_get p.linked.file.names (n - 1)) None)) (lt-ltb 0 n b)

pub form_found : (p : Setting) (n : ℕ) (m : Multiname) → 0 < n → slice_get p.linked.file.names (n - 1) ≡ Some m → name_form_at p n ≡ name_form p m
form_found p n m b e = form_there p n b ∙ ap (form_of_name p) e

pub form_past : (p : Setting) (n : ℕ) → 0 < n → slice_get p.linked.file.names (n - 1) ≡ None → name_form_at p n ≡ None
form_past p n b e = form_there p n b ∙ ap (form_of_name p) e

-- ---- texts of names are there, and their strings can be counted

name_text : (p : Setting) (h : Heap) (m : Multiname) → HasFormText p.linked.file.strings h (name_form p m)
name_text p h (names.QName false ns i) = string_there p.linked.file.strings h i
name_text p h (names.QName true ns i) = tt
name_text p h (names.Multi false i set) = string_there p.linked.file.strings h i
name_text p h (names.Multi true i set) = tt
name_text p h (names.Rt false i) = string_there p.linked.file.strings h i
name_text p h (names.Rt true i) = tt
name_text p h (names.MultiL false set) = tt
name_text p h (names.MultiL true set) = tt
name_text p h (names.RtL false) = tt
name_text p h (names.RtL true) = tt
name_text p h (names.TypeName base params) = tt

pub form_text : (p : Setting) (h : Heap) (n : ℕ) → HasFormText p.linked.file.strings h (name_form_at p n)
form_text p h n = go (multiname_at p.linked n)
  where
    go : (m : Option Multiname) → HasFormText p.linked.file.strings h (form_of_name p m)
    go None = tt
    go (Some m) = name_text p h m

-- a form of which no part comes at run time
pub whole_form : (o : Option Name) (form : Form) (r : Option NameForm) → MatchOption o (Unit {0}) (λ x. name_form_of form ≡ Whole x) → forms_of (Some form) ≡ r → MatchOption o (Unit {0}) (λ x. r ≡ Some (Whole x))
whole_form None form r h e = tt
whole_form (Some x) form r h e = sym e ∙ ap (λ (f : NameForm). Some f) h

pub late_form : (o : Option Spaces) (form : Form) (r : Option NameForm) → MatchOption o (Unit {0}) (λ of. name_form_of form ≡ NoText of) → forms_of (Some form) ≡ r → MatchOption o (Unit {0}) (λ of. r ≡ Some (NoText of))
late_form None form r h e = tt
late_form (Some of) form r h e = sym e ∙ ap (λ (f : NameForm). Some f) h

pub whole_text : (p : Setting) (h : Heap) (n : ℕ) (o : Option Name) → MatchOption o (Unit {0}) (λ x. name_form_at p n ≡ Some (Whole x)) → MatchOption o (Unit {0}) (λ x. IsText p.linked.file.strings h x.text)
whole_text p h n None e = tt
whole_text p h n (Some x) e = subst (HasFormText p.linked.file.strings h) e (form_text p h n)

fields_small : (strings namespaces sets all : ℕ) (m : Multiname) → HasFields strings namespaces sets all m → HasString m
fields_small strings namespaces sets all (names.QName attr ns i) h = ((pool_index_fits strings i).0 h.1).1
fields_small strings namespaces sets all (names.Rt attr i) h = ((pool_index_fits strings i).0 h).1
fields_small strings namespaces sets all (names.RtL attr) h = tt
fields_small strings namespaces sets all (names.Multi attr i set) h = ((pool_index_fits strings i).0 h.0).1
fields_small strings namespaces sets all (names.MultiL attr set) h = tt
fields_small strings namespaces sets all (names.TypeName base params) h = tt

name_small : (v : Sizes) (m : Multiname) → FitsMultiname v m → HasString m
name_small v m f = fields_small v.strings v.namespaces v.sets v.names m ((multiname_fits v m).0 f)

pub string_small : (l : LinkedFile) → IsLinkedFile l → (k : ℕ) (m : Multiname) → slice_get l.file.names k ≡ Some m → HasString m
string_small l f k m e =
    let pools = (pools_fit l.file).0 ((tables_fit l.file).0 ((file_fits l.file).0 f.fits).1).0 in
    let all = ((multinames_fit (sizes_of l.file) l.file.names refl).0 pools.names).1 in
    let fits = all k m (slice_get_within l.file.names k m e) in
    name_small (sizes_of l.file) m (subst (FitsMultiname (sizes_of l.file)) (get_or_from_slice_get l.file.names k m m e) fits)

-- ---- the parts of a name are there where so many operands are

pub has_parts : (o : Option NameForm) (above : ℕ) (f : Frame) → above + name_parts_count o ≤ length f.stack → HasNameParts o above f
has_parts None above f b = tt
has_parts (Some (Whole name)) above f b = tt
has_parts (Some (NoSpace text)) above f b = omega arith
has_parts (Some (NoText of)) above f b = omega arith
has_parts (Some NoPart) above f b = omega arith
