-- Where bytes spell a file, the file's fields of one byte are below 256.
use Rattle.std.proofs.Common.{◌≡◌, ℕ, zero, suc, ◌+◌, ◌-◌, ◌<◌, List, [], ◌∷◌, ◌++◌, length, map, sym, subst}
use Rattle.std.specs.List.{AllByRecursion}
use Rattle.abc_file_types.specs.Ends.{Pieces}
use Rattle.abc_file_types.specs.Lists.{chain, count_and_items, pool, bytes_with_count, times}
use Rattle.abc_file_types.specs.Numbers.{u8}
use Rattle.abc_file_types.specs.Part.{Part}
use Rattle.abc_file_types.specs.declared.classes.Instance.{Instance}
use Rattle.abc_file_types.specs.declared.code.Body.{Body}
use Rattle.abc_file_types.specs.declared.code.Instr.{Instr}
use Rattle.abc_file_types.specs.declared.instructions.Code.{Code}
use Rattle.abc_file_types.specs.declared.methods.Method.{Method}
use Rattle.abc_file_types.specs.declared.opcodes.Form.{Form}
use Rattle.abc_file_types.specs.declared.opcodes.Form.TheVariants as forms
use Rattle.abc_file_types.specs.declared.tables.Abc.{Abc}
use Rattle.abc_file_types.specs.declared.tables.Eight.{Eight}
use Rattle.abc_file_types.specs.declared.tables.Sizes.{Sizes}
use Rattle.abc_file_types.specs.Bodies.{bodies, bodies_alone, body, body_list, body_method, body_with, methods_of}
use Rattle.abc_file_types.specs.Classes.{definitions, instance, sizes_of, sizes_with}
use Rattle.abc_file_types.specs.Code.{Means, MeansAll, code, code_body}
use Rattle.abc_file_types.specs.Files.{file}
use Rattle.abc_file_types.specs.Instructions.{Branch, RawInstr, Same, Switch, instruction, operand_parts}
use Rattle.abc_file_types.specs.Methods.{method}
use Rattle.abc_file_types.specs.Pools.{double, pools}
use Rattle.abc_disasm.specs.Bytes.{HasByteFields, HasByteValues}

abbrev pub AreBytes : List ℕ → Type 0
AreBytes bytes = AllByRecursion (λ b. b < 256) bytes

two_bytes : (a b : List ℕ) → AreBytes (a ++ b) → AreBytes a × AreBytes b
two_bytes [] b all = (tt, all)
two_bytes (x ∷ a) b all = let more = two_bytes a b all.1 in ((all.0, more.0), more.1)

front_bytes : (bytes a b : List ℕ) → bytes ≡ a ++ b → AreBytes bytes → AreBytes a
front_bytes bytes a b e all = (two_bytes a b (subst AreBytes e all)).0

back_bytes : (bytes a b : List ℕ) → bytes ≡ a ++ b → AreBytes bytes → AreBytes b
back_bytes bytes a b e all = (two_bytes a b (subst AreBytes e all)).1

-- ---- parts

-- every value that bytes spell is such
abbrev Carries : {A : Type 0} → (A → Type 0) → Part A → Type 0
Carries {A} Q p = (x : A) (b : List ℕ) → AreBytes b → p.spells x b → Q x

u8-carries : Carries (λ n. n < 256) u8
unfolding u8
u8-carries x b all s = (subst AreBytes s all).0

times-carries : {A : Type 0} (Q : A → Type 0) (p : Part A) → Carries Q p → (n : ℕ) → Carries (AllByRecursion Q) (times n p)
times-carries Q p h zero xs b all s = subst (AllByRecursion Q) (sym s.0) tt
times-carries Q p h (suc n) xs b all s =
    let t = s.1 in
    subst (AllByRecursion Q) (sym s.2) (h s.0.0 t.0 (front_bytes b t.0 t.1 t.2 all) t.3, times-carries Q p h n s.0.1 t.1 (back_bytes b t.0 t.1 t.2 all) t.4)

counted-carries : {A : Type 0} (Q : A → Type 0) (p : Part A) → Carries Q p → Carries (AllByRecursion Q) (count_and_items p)
unfolding count_and_items
counted-carries Q p h xs b all s = let t = s.1 in subst (AllByRecursion Q) (sym s.2) (times-carries Q p h s.0.0 s.0.1 t.1 (back_bytes b t.0 t.1 t.2 all) t.4)

pool-carries : {A : Type 0} (Q : A → Type 0) (p : Part A) → Carries Q p → Carries (AllByRecursion Q) (pool p)
unfolding pool
pool-carries Q p h xs b all s = let t = s.1 in subst (AllByRecursion Q) (sym s.2) (times-carries Q p h (s.0.0 - 1) s.0.1 t.1 (back_bytes b t.0 t.1 t.2 all) t.4)

last_too : {A : Type 0} (Q : A → Type 0) (xs : List A) (x : A) → AllByRecursion Q xs → Q x → AllByRecursion Q (xs ++ x ∷ [])
last_too Q [] x all q = (q, tt)
last_too Q (y ∷ xs) x all q = (all.0, last_too Q xs x all.1 q)

chain-carries : {A : Type 0} (Q : A → Type 0) (p : List A → Part A) → ((before : List A) → Carries Q (p before)) → (n : ℕ) (before : List A) → AllByRecursion Q before → Carries (AllByRecursion Q) (chain n p before)
chain-carries Q p h zero before are xs b all s = subst (AllByRecursion Q) (sym s.0) are
chain-carries Q p h (suc n) before are xs b all s =
    let y = s.0 in
    let t = s.1 in
    let here = h before y.0 t.0 (front_bytes b t.0 t.1 t.2 all) t.3 in
    subst (AllByRecursion Q) (sym s.2) (chain-carries Q p h n (before ++ y.0 ∷ []) (last_too Q before y.0 are here) y.1 t.1 (back_bytes b t.0 t.1 t.2 all) t.4)

-- ---- pools and definitions

text-carries : Carries AreBytes bytes_with_count
unfolding bytes_with_count
text-carries = counted-carries (λ n. n < 256) u8 u8-carries

double-carries : Carries (λ d. AreBytes d.0) double
unfolding double
double-carries d b all s = subst (λ (e : Eight). AreBytes e.0) (sym s.2) (times-carries (λ n. n < 256) u8 u8-carries 8 s.0 b all s.1)

-- the texts and doubles of a value
abbrev HasTexts : Abc → Type 0
HasTexts v = AllByRecursion (λ d. AreBytes d.0) v.doubles × AllByRecursion AreBytes v.strings

pools-carry : Carries HasTexts pools
unfolding pools
pools-carry abc b all s =
    let x = s.0 in
    let t = s.1 in
    let u = t.4 in
    let w = u.4 in
    let y = w.4 in
    let a = back_bytes b t.0 t.1 t.2 all in
    let c = back_bytes t.1 u.0 u.1 u.2 a in
    let d = back_bytes u.1 w.0 w.1 w.2 c in
    subst HasTexts (sym s.2) (pool-carries (λ (d : Eight). AreBytes d.0) double double-carries x.1.1.0 w.0 (front_bytes u.1 w.0 w.1 w.2 c) w.3, pool-carries AreBytes bytes_with_count text-carries x.1.1.1.0 y.0 (front_bytes w.1 y.0 y.1 y.2 d) y.3)

method-carries : (v : Sizes) → Carries (λ m. m.flags < 256) (method v)
unfolding method
method-carries v m b all s =
    let t = s.1 in
    let u = t.4 in
    let w = u.4 in
    let y = w.4 in
    let z = y.4 in
    let a = back_bytes b t.0 t.1 t.2 all in
    let c = back_bytes t.1 u.0 u.1 u.2 a in
    let d = back_bytes u.1 w.0 w.1 w.2 c in
    let e = back_bytes w.1 y.0 y.1 y.2 d in
    subst (λ (m : Method). m.flags < 256) (sym s.2) (u8-carries s.0.1.1.1.1.0 z.0 (front_bytes y.1 z.0 z.1 z.2 e) z.3)

instance-carries : (v : Sizes) → Carries (λ i. i.flags < 256) (instance v)
unfolding instance
instance-carries v i b all s =
    let t = s.1 in
    let u = t.4 in
    let w = u.4 in
    let a = back_bytes b t.0 t.1 t.2 all in
    let c = back_bytes t.1 u.0 u.1 u.2 a in
    subst (λ (i : Instance). i.flags < 256) (sym s.2) (u8-carries s.0.1.1.0 w.0 (front_bytes u.1 w.0 w.1 w.2 c) w.3)

-- the flags of a value
abbrev HasFlags : Abc → Type 0
HasFlags v = AllByRecursion (λ m. m.flags < 256) v.methods × AllByRecursion (λ i. i.flags < 256) v.instances

definitions-carry : (abc : Abc) → HasTexts abc → Carries (λ full. HasTexts full × HasFlags full) (definitions abc)
unfolding definitions
definitions-carry abc texts full b all s =
    let x = s.0 in
    let t = s.1 in
    let u = t.4 in
    let w = u.4 in
    let y = w.4 in
    let a = back_bytes b t.0 t.1 t.2 all in
    let c = back_bytes t.1 u.0 u.1 u.2 a in
    let d = back_bytes u.1 w.0 w.1 w.2 c in
    let flags = counted-carries (λ (m : Method). m.flags < 256) (method (sizes_with abc 0 0 0)) (method-carries (sizes_with abc 0 0 0)) x.0 t.0 (front_bytes b t.0 t.1 t.2 all) t.3 in
    let sizes = sizes_with abc (length x.0) (length x.1.0) x.1.1.0 in
    let more = times-carries (λ (i : Instance). i.flags < 256) (instance sizes) (instance-carries sizes) x.1.1.0 x.1.1.1.0 y.0 (front_bytes w.1 y.0 y.1 y.2 d) y.3 in
    subst (λ (v : Abc). HasTexts v × HasFlags v) (sym s.2) (texts, (flags, more))

-- ---- code

abbrev HasRawFields : RawInstr → Type 0
HasRawFields (Same i) = HasByteFields i
HasRawFields (Branch op z) = Unit {0}
HasRawFields (Switch z zs) = Unit {0}

operands-carry : (op : ℕ) (form : Form) → Carries HasRawFields (operand_parts op form)
operands-carry op forms.Plain x b all s = subst HasRawFields (sym s.0) tt
operands-carry op forms.One x b all s = subst HasRawFields (sym s.2) tt
operands-carry op forms.Two x b all s = subst HasRawFields (sym s.2) tt
operands-carry op forms.Branch x b all s = subst HasRawFields (sym s.2) tt
operands-carry op forms.Switch x b all s = subst HasRawFields (sym s.2) tt
operands-carry op forms.Byte x b all s = subst HasRawFields (sym s.2) tt
operands-carry op forms.Short x b all s = subst HasRawFields (sym s.2) tt
operands-carry op forms.ScopeObject x b all s = subst HasRawFields (sym s.2) (u8-carries s.0 b all s.1)
operands-carry op forms.Debug x b all s =
    let t = s.1 in
    let u = t.4 in
    let w = u.4 in
    let a = back_bytes b t.0 t.1 t.2 all in
    let c = back_bytes t.1 u.0 u.1 u.2 a in
    subst HasRawFields (sym s.2) (u8-carries s.0.0 t.0 (front_bytes b t.0 t.1 t.2 all) t.3, u8-carries s.0.1.1.0 w.0 (front_bytes u.1 w.0 w.1 w.2 c) w.3)

instruction-carries : Carries HasRawFields instruction
unfolding instruction
instruction-carries r b all s = let t = s.1 in subst HasRawFields (sym s.2) (operands-carry s.0.0.0 s.0.0.1 s.0.1 t.1 (back_bytes b t.0 t.1 t.2 all) t.4)

pieces_carry : (ps : List (RawInstr × ℕ)) (b : List ℕ) → AreBytes b → Pieces instruction ps b → AllByRecursion (λ p. HasRawFields p.0) ps
pieces_carry [] b all filled = tt
pieces_carry (p ∷ ps) b all filled =
    (instruction-carries p.0 filled.0 (front_bytes b filled.0 filled.1 filled.2 all) filled.3, pieces_carry ps filled.1 (back_bytes b filled.0 filled.1 filled.2 all) filled.5)

meant : (ps : List (RawInstr × ℕ)) (here next : ℕ) (r : RawInstr) (i : Instr) → Means ps here next r i → HasRawFields r → HasByteFields i
meant ps here next (Same j) i m h = subst HasByteFields (sym m) h
meant ps here next (Branch op z) i m h = subst HasByteFields (sym m.2) tt
meant ps here next (Switch z zs) i m h = subst HasByteFields (sym m.4) tt

all_meant : (ps : List (RawInstr × ℕ)) (here : ℕ) (xs : List (RawInstr × ℕ)) (is : List Instr) → MeansAll ps here xs is → AllByRecursion (λ p. HasRawFields p.0) xs → AllByRecursion HasByteFields is
all_meant ps here [] [] m h = tt
all_meant ps here [] (i ∷ is) m h = absurd m
all_meant ps here (x ∷ xs) [] m h = absurd m
all_meant ps here (x ∷ xs) (i ∷ is) m h = (meant ps here (here + x.1) x.0 i m.0 h.0, all_meant ps (here + x.1) xs is m.1 h.1)

code_body-carries : (n : ℕ) → Carries (λ c. AllByRecursion HasByteFields c.instrs) (code_body n)
unfolding code_body
code_body-carries n c b all s = let t = s.0 in all_meant t.pieces 0 t.pieces c.instrs t.means (pieces_carry t.pieces b all t.filled)

code-carries : Carries (λ c. AllByRecursion HasByteFields c.instrs) code
unfolding code
code-carries c b all s = let t = s.1 in subst (λ (c : Code). AllByRecursion HasByteFields c.instrs) (sym s.2) (code_body-carries s.0.0 s.0.1 t.1 (back_bytes b t.0 t.1 t.2 all) t.4)

-- ---- bodies

abbrev HasCodeFields : Body → Type 0
HasCodeFields b = AllByRecursion HasByteFields b.code

body-carries : (v : Sizes) (q : Part ℕ) → Carries (λ x. HasCodeFields x.0) (body_with v q)
unfolding body_with
body-carries v q r b all s =
    let t = s.1 in
    let u = t.4 in
    let w = u.4 in
    let y = w.4 in
    let z = y.4 in
    let k = z.4 in
    let a = back_bytes b t.0 t.1 t.2 all in
    let c = back_bytes t.1 u.0 u.1 u.2 a in
    let d = back_bytes u.1 w.0 w.1 w.2 c in
    let e = back_bytes w.1 y.0 y.1 y.2 d in
    let f = back_bytes y.1 z.0 z.1 z.2 e in
    subst (λ (x : Body × List ℕ). HasCodeFields x.0) (sym s.2) (code-carries s.0.1.1.1.1.1.0 k.0 (front_bytes z.1 k.0 k.1 k.2 f) k.3)

list-carries : (v : Sizes) → Carries (AllByRecursion (λ x. HasCodeFields x.0)) (body_list v)
unfolding body_list body
list-carries v xs b all s =
    let t = s.1 in
    subst (AllByRecursion (λ (x : Body × List ℕ). HasCodeFields x.0)) (sym s.2)
    (chain-carries (λ (x : Body × List ℕ). HasCodeFields x.0) (λ before. body_with v (body_method v (methods_of before))) (λ before. body-carries v (body_method v (methods_of before))) s.0.0 [] tt s.0.1 t.1 (back_bytes b t.0 t.1 t.2 all) t.4)

each_first : (xs : List (Body × List ℕ)) → AllByRecursion (λ x. HasCodeFields x.0) xs → AllByRecursion HasCodeFields (map (λ (x : Body × List ℕ). x.0) xs)
each_first [] all = tt
each_first (x ∷ xs) all = (all.0, each_first xs all.1)

-- all of a value's
abbrev HasAll : Abc → Type 0
HasAll v = (HasTexts v × HasFlags v) × AllByRecursion HasCodeFields v.bodies

bodies-carry : (full : Abc) → HasTexts full × HasFlags full → Carries HasAll (bodies_alone full)
unfolding bodies_alone bodies
bodies-carry full known v b all s =
    let t = s.1 in
    let fields = list-carries (sizes_of full) t.0 b all t.1 in
    let made : Abc × List (List ℕ) → Type 0 = λ y. HasAll y.0 in
    subst HasAll (sym s.2) (subst made (sym t.2) (known, each_first t.0 fields))

-- ---- the whole file

file-carries : Carries HasAll file
unfolding file
file-carries v b all s =
    let x = s.0 in
    let t = s.1 in
    let u = t.4 in
    let w = u.4 in
    let a = back_bytes b t.0 t.1 t.2 all in
    let c = back_bytes t.1 u.0 u.1 u.2 a in
    let texts = pools-carry x.1.0 u.0 (front_bytes t.1 u.0 u.1 u.2 a) u.3 in
    let full = definitions-carry x.1.0 texts x.1.1.0 w.0 (front_bytes u.1 w.0 w.1 w.2 c) w.3 in
    subst HasAll (sym s.2) (bodies-carry x.1.1.0 full x.1.1.1 w.1 (back_bytes u.1 w.0 w.1 w.2 c) w.4)

pub byte_values : (v : Abc) (b : List ℕ) → AreBytes b → file.spells v b → HasByteValues v
byte_values v b all s = let h = file-carries v b all s in record { doubles = h.0.0.0; strings = h.0.0.1; methods = h.0.1.0; instance_list = h.0.1.1; bodies = h.1 }
