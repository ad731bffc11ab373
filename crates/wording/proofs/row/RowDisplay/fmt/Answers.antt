use Rattle.std.proofs.Common.{ℕ, List, [], ◌∷◌, ◌++◌, append_assoc, is_ok, sym, refl, ap, ◌∙◌, rules}
use Rattle.std.proofs.Output.{writes_in_calls_nil, has_written_append, has_written_of_eq}
use Rattle.std.specs.List.{join_by}
use Rattle.parts.proofs.Joining.{joined_more, gap_more}
use Rattle.wording.specs.Symbols.{symbol_said}
use Rattle.wording.proofs.row.RowDisplay.fmt.Goals as goal

pub loop-symbol-init : goal.loop-symbol-init
loop-symbol-init g c = ([], refl, search rules, refl, λ plain. record { wrote = writes_in_calls_nil g.W.Write.write_str_gives _; plain = plain })

pub loop-symbol-preserved : goal.loop-symbol-preserved
loop-symbol-preserved g c =
    let took = g.W.Write.write_str_gives in
    let (seen, all, text, gap, wrote) = c.loop-symbol.invariant in
    let n = c.in-Some.symbol in
    let said : ℕ → List ℕ = symbol_said c.args.self.now.names.now in
    let between = c.args.self.now.between.now in
    let more = ap (λ g. join_by said between seen ++ (g ++ said n)) gap ∙ joined_more said between seen n in (
      seen ++ (n ∷ []),
      all ∙ ap (λ xs. seen ++ xs) c.in-Some.ensures ∙ sym (append_assoc seen (n ∷ []) _),
      search rules,
      gap_more between seen n,
      λ plain.
          let before = wrote plain in
          let one = c.write.ensures.writes before.plain (ap is_ok c.in_ok-write.was) in
          has_written_of_eq took _ _ _ _ more (has_written_append took _ _ _ _ _ before one),
    )
