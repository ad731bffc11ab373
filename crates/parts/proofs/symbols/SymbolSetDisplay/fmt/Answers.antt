use Rattle.std.proofs.Common.{ℕ, List, [], ◌∷◌, ◌++◌, append_assoc, is_ok, codes, decimal, sym, refl, ap, ◌∙◌, rules}
use Rattle.std.proofs.Output.{writes_in_calls_nil, has_written_append, has_written_of_eq}
use Rattle.std.specs.List.{join_by}
use Rattle.parts.proofs.Joining.{joined_more, gap_more}
use Rattle.parts.proofs.symbols.SymbolSetDisplay.fmt.Goals as goal

abbrev row : List ℕ → List ℕ
row = join_by decimal (codes ",")

pub loop-symbol-init : goal.loop-symbol-init
loop-symbol-init g c = ([], refl, search rules, refl, λ plain. record { wrote = writes_in_calls_nil g.W.Write.write_str_gives _; plain = plain })

pub loop-symbol-preserved : goal.loop-symbol-preserved
loop-symbol-preserved g c =
    let took = g.W.Write.write_str_gives in
    let (seen, all, text, gap, wrote) = c.loop-symbol.invariant in
    let n = c.in-Some.symbol in
    let more = ap (λ g. row seen ++ (g ++ decimal n)) gap ∙ joined_more decimal (codes ",") seen n in (
      seen ++ (n ∷ []),
      all ∙ ap (λ xs. seen ++ xs) c.in-Some.ensures ∙ sym (append_assoc seen (n ∷ []) _),
      search rules,
      gap_more (codes ",") seen n,
      λ plain.
          let before = wrote plain in
          let one = c.write.ensures.writes before.plain (ap is_ok c.in_ok-write.was) in
          has_written_of_eq took _ _ _ _ more (has_written_append took _ _ _ _ _ before one),
    )
