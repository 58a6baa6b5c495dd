use Rattle.naming.proofs.KeySteps.{keys_step, keys-filling}
use Rattle.naming.proofs.keys.fill_keys.Goals as goal

pub loop-i-init : goal.loop-i-init
loop-i-init c = search keys-filling

pub overflow_mul-i : goal.overflow_mul-i
overflow_mul-i c = search keys-filling

pub key_at-requires : goal.key_at-requires
key_at-requires c = search keys-filling

pub offset_bounds-keys-i : goal.offset_bounds-keys-i
offset_bounds-keys-i c = search keys-filling

pub bounds-keys-i : goal.bounds-keys-i
bounds-keys-i c = search keys-filling

pub loop-i-preserved : goal.loop-i-preserved
loop-i-preserved c =
    let a = c.args in
    let l = c.loop-i in
    (search keys-filling, keys_step a.text.now a.entries.now a.keys.now l.keys l.i (search keys-filling) c.key_at.result (search keys-filling) (search keys-filling))

pub shape_of-keys : goal.shape_of-keys
shape_of-keys c = search keys-filling

pub returns : goal.returns
returns c = search keys-filling
