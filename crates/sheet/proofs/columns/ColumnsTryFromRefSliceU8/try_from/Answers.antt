use Rattle.std.proofs.Common.{◌≡◌, sym, ◌∙◌, rules, tests}
use Rattle.std.specs.Str.{bytes_eq}
use Rattle.std.proofs.lemmas.Iterator.{YieldsList-from_slice}
use Rattle.std.proofs.lemmas.Iterator.Consumers.{YieldsList-from_copied, YieldsList-at}
use Rattle.std.proofs.lemmas.Iterator.Search.{find_from_yields_List}
use Rattle.std.proofs.lemmas.Iterator.Adapters.{option_map_id}
use Rattle.sheet.specs.Columns.{name_line, orders, columns_of}
use Rattle.sheet.proofs.columns.ColumnsTryFromRefSliceU8.try_from.Goals as goal

pub returns : goal.returns
unfolding columns_of
returns c =
    let found : c.find.result ≡ columns_of c.args.line.now = sym (option_map_id c.find.result) ∙ find_from_yields_List (λ order. bytes_eq c.args.line.now (name_line order)) _ _ c.find.result c.find.ensures.ran (YieldsList-from_copied (YieldsList-at c.copied.ensures.source (YieldsList-from_slice orders (cc)))) (λ x b q k. search (rules, tests)) in
    cc
