-- What ends a line is a comment, of whatever text it shows.
use Rattle.std.proofs.Common.{ℕ, ◌-◌, inl, inr, Bool, true, false, if◌then◌else◌, ◌&&◌, nat_eq, nat_le, List, [], ◌∷◌, ◌++◌, codes, length, take, slice_get, refl}
use Rattle.std.specs.List.{AllByRecursion}
use Rattle.abc_base.specs.Escapes.{with_escapes}
use Rattle.abc_text_lines.specs.declared.word.Word.{Word}
use Rattle.abc_text_lines.specs.declared.word.Word.TheVariants as words
use Rattle.abc_text_lines.specs.Writing.{IsComment}
use Rattle.abc_file_types.specs.declared.opcodes.Pool.{Pool}
use Rattle.abc_file_types.specs.declared.opcodes.Pool.TheVariants as pools
use Rattle.abc_file_types.specs.declared.tables.Abc.{Abc}
use Rattle.abc_text_lines.specs.Lines.{Item, Number, Kind}
use Rattle.abc_text_lines.specs.Wordlines.{lookup}
use Rattle.abc_text_lines.specs.Kinds.{multiname_words}
use Rattle.abc_text_lines.specs.Listing.{comment_of, multiname_comment, name_comment, string_of_name, name_shown, operand_comment, pool_shown, quoted_comment, string_at}
use Rattle.abc_disasm.proofs.Items.{all_append, escaped_feed}
use Rattle.abc_disasm.proofs.Runs.{IsNoFeed}

-- nothing or a comment, on one line
pub record IsRemark (comment : List ℕ) : Type 0 where
  pub is : IsComment comment
  pub feed : AllByRecursion IsNoFeed comment

nothing_is : IsRemark []
nothing_is = record { is = inl refl; feed = tt }

quoted_is : (text : List ℕ) → IsRemark (quoted_comment text)
quoted_is text = record {
  is = inr (0x20 ∷ 0x22 ∷ (with_escapes (take 16 text) ++ codes "\""), refl);
  feed = (refl, (refl, (refl, (refl, all_append IsNoFeed (with_escapes (take 16 text)) (codes "\"") (escaped_feed (take 16 text)) (refl, tt)))));
}

star_is : IsRemark (codes " ; *")
star_is = record { is = inr (codes " *", refl); feed = (refl, (refl, (refl, (refl, tt)))) }

either_is : (b : Bool) (c d : List ℕ) → IsRemark c → IsRemark d → IsRemark (if b then c else d)
either_is true c d p q = p
either_is false c d p q = q

name_is : (v : Abc) (n : ℕ) → IsRemark (name_comment v n)
name_is v n = either_is (nat_eq n 0) (codes " ; *") (quoted_comment (string_at v n)) star_is (quoted_is (string_at v n))

multiname_is : (v : Abc) (n : ℕ) → IsRemark (multiname_comment v n)
multiname_is v n = name_is v (string_of_name (slice_get v.names (n - 1)))

operand_is : (v : Abc) (pool : Pool) (n : ℕ) → IsRemark (operand_comment v pool n)
operand_is v pools.Name n = either_is (nat_le 1 n && nat_le n (length v.names)) (multiname_comment v n) [] (multiname_is v n) nothing_is
operand_is v pools.Text n = either_is (nat_le 1 n && nat_le n (length v.strings)) (quoted_comment (string_at v n)) [] (quoted_is (string_at v n)) nothing_is
operand_is v _ n = nothing_is

pub remark_is : (v : Abc) (w : Word) (items : List Item) → IsRemark (comment_of v w items)
remark_is v words.Namespace (Kind kind ∷ Number n ∷ items) = quoted_is (string_at v n)
remark_is v words.Name (Kind kind ∷ items) = name_is v (name_shown (lookup multiname_words kind) items)
remark_is v words.Instance (Number n ∷ items) = multiname_is v n
remark_is v words.Trait (Kind kind ∷ Number attrs ∷ Number n ∷ items) = multiname_is v n
remark_is v (words.Instruction op) (Number n ∷ items) = operand_is v (pool_shown op) n
remark_is v _ items = nothing_is
