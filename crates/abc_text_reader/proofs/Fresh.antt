-- A reader at the first line of a text.
use Rattle.std.proofs.Common.{◌≡◌, ℕ, ◌<◌, ◌^◌, Bool, List, [], ◌++◌, length, take, drop, map, None, sym, ap, subst, ◌∙◌, arith}
use Rattle.std.specs.Borrow.{Bor}
use Rattle.std.specs.Map.{lookup}
use Rattle.std.specs.declared.option.Option.{Option}
use Rattle.abc_file_types.specs.declared.tables.Sizes.{Sizes}
use Rattle.abc_text_lines.specs.Wordlines.{count_all}
use Rattle.abc_text_lines.specs.Texts.{Raw, instances_in, lines_in, raws_from, rows_of_lines, rows_of, sizes_in}
use Rattle.abc_text_tokens.specs.Ahead.{FollowsLine}
use Rattle.abc_text_tokens.specs.Counts.{count_all_raws}
use Rattle.abc_text_tokens.proofs.Counted.{all_counted, comes_raws, fewer, stay_numbered}
use Rattle.abc_text_operands.specs.Places.{Places}
use Rattle.abc_text_tokens.specs.Cursor.{Comes, raws_at}
use Rattle.abc_text_tokens.specs.Names.{NameMap, is_name_equal}
use Rattle.abc_text_tokens.specs.declared.line.Line.{Line}
use Rattle.abc_text_reader.specs.Names.{key_of_entry, names_in}
use Rattle.abc_text_reader.specs.declared.reader.Reader.{Reader}
use Rattle.abc_text_reader.specs.Reading.{IsReader, labels_now, rows_left, set_now}

-- how many lines of a place are left
pub left_counted : (r : Reader) (place : ℕ) → count_all place (rows_left r) ≡ count_all_raws place (raws_at r.next)
unfolding rows_left
left_counted r place = all_counted place (labels_now r.body) (set_now r) r.bodied (raws_at r.next)

no_places : (m : NameMap ℕ) → m.entries ≡ [] → Places m []
no_places m e name = ap (λ (es : List (Bor (List ℕ) × ℕ)). lookup (is_name_equal name) es) e

module _ (text : List ℕ) (next : Option Line) (comes : Comes (raws_from 1 (lines_in text)) 1 (length text) next) where
  first_rows : rows_of_lines [] [] [] (raws_at next) ≡ rows_of text
  unfolding rows_of
  first_rows = ap (λ (raws : List Raw). rows_of_lines [] [] [] raws) (sym (comes_raws (raws_from 1 (lines_in text)) 1 (length text) next comes))

  module _ (r : Reader) (here : r.next ≡ next) (body : r.body ≡ None) (places : r.places.entries ≡ []) (set : r.set.entries ≡ []) (met : r.met ≡ 0) (bodied : r.bodied ≡ []) where
    pub fresh_rows : rows_left r ≡ rows_of text
    unfolding rows_left
    fresh_rows =
        ap (λ (o : Option Line). rows_of_lines (labels_now o) (set_now r) r.bodied (raws_at r.next)) body
        ∙ ap (λ (es : List (Bor (List ℕ) × Bool)). rows_of_lines [] (map key_of_entry es ++ take r.met (names_in r.places)) r.bodied (raws_at r.next)) set
        ∙ ap (λ (n : ℕ). rows_of_lines [] (take n (names_in r.places)) r.bodied (raws_at r.next)) met
        ∙ ap (λ (taken : List (List ℕ)). rows_of_lines [] [] taken (raws_at r.next)) bodied
        ∙ ap (λ (o : Option Line). rows_of_lines [] [] [] (raws_at o)) here
        ∙ first_rows

    pub fresh_reader : length text < 2 ^ 32 → r.instances_left ≡ r.instances → r.classes_left ≡ r.sizes.classes → r.sizes ≡ sizes_in (rows_of text) → r.instances ≡ instances_in (rows_of text) → r.ahead.items ≡ [] → r.place ≡ 0 → IsReader r
    fresh_reader short instances classes sizes_are instances_are ahead place =
        let comes_here : Comes (raws_from 1 (lines_in text)) 1 (length text) r.next = subst (λ (o : Option Line). Comes (raws_from 1 (lines_in text)) 1 (length text) o) (sym here) comes in
        let most = fewer (raws_from 1 (lines_in text)) 1 (length text) r.next comes_here in
        let counted : (place : ℕ) → count_all place (rows_of text) ≡ count_all_raws place (raws_at next) = λ place. ap (count_all place) (sym first_rows) ∙ all_counted place [] [] [] (raws_at next) in
        let classes_count : r.sizes.classes ≡ count_all_raws 20 (raws_at next) = ap (λ (s : Sizes). s.classes) sizes_are ∙ counted 20 in
        let instances_count : r.instances ≡ count_all_raws 14 (raws_at next) = instances_are ∙ counted 14 in
        record {
          places = subst (λ (o : Option Line). Places r.places (labels_now o)) (sym body) (no_places r.places places);
          numbered = stay_numbered (raws_from 1 (lines_in text)) 1 (length text) r.next (omega arith) comes_here;
          few = omega arith;
          ahead = subst (λ (n : ℕ). FollowsLine r.next (drop n r.ahead.items)) (sym place) (subst (λ (lines : List Line). FollowsLine r.next lines) (sym ahead) tt);
          instances = instances ∙ instances_count ∙ ap (λ (o : Option Line). count_all_raws 14 (raws_at o)) (sym here);
          some_instances = omega arith;
          classes = classes ∙ classes_count ∙ ap (λ (o : Option Line). count_all_raws 20 (raws_at o)) (sym here);
          some_classes = omega arith;
        }
