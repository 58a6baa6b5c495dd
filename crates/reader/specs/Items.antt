-- The item of a line: of a `send`, and of a `group`, whose last field is known only at its brace.
use Rattle.std.specs.Prelude.{ℕ}
use Rattle.page.specs.declared.Item.{Item}

abbrev pub send_item : (part event delay number : ℕ) → Item
send_item p e d n = record { kind = 0; synchrony = 0; error = 0; part = p; delay = record { 0 = d }; event = e; last = n }

abbrev pub group_item : (part event delay synchrony error last : ℕ) → Item
group_item p e d w v n = record { kind = 1; synchrony = w; error = v; part = p; delay = record { 0 = d }; event = e; last = n }
