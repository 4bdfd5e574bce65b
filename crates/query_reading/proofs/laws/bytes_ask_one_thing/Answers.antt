use Rattle.query_reading.proofs.OneWay.{asks_once}
use Rattle.query_reading.proofs.laws.bytes_ask_one_thing.Goals as goal

pub returns : goal.returns
returns g c bytes asks others = asks_once g.G.Grammar.says bytes asks others
