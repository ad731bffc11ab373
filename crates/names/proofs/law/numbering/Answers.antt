use Rattle.names.proofs.Numbering.{met_in_turn, stays_known, symbol_stays, added_behind, front_stays, no_fewer, each_met_known, symbol_below, symbol_of_new, at_symbol, same_symbol, met_new}
use Rattle.names.proofs.law.numbering.Goals as goal

pub returns : goal.returns
returns c = record {
  in_turn = met_in_turn;
  stays_known = λ ks ns n known. (stays_known ks ns n known, symbol_stays ks ns n known);
  adds_behind = added_behind;
  front_stays = λ ks ns. (front_stays ks ns, no_fewer ks ns);
  knows_each_met = each_met_known;
  symbols_below = λ ks n. (symbol_below ks n, symbol_of_new ks n);
  stands_at_symbol = at_symbol;
  symbols_differ = same_symbol;
  adds_last = met_new;
}
