use Rattle.std.proofs.lemmas.Str.{IsUtf8-nil, is_utf8-from_IsUtf8}

pub invariant_of-self-inside :
    Rattle.scene_fields.proofs.owned_text.OwnedText.take_memory.Goals.invariant_of-self-inside
invariant_of-self-inside c = (rw (c.replace.ensures.after, c.new.ensures.items) (is_utf8-from_IsUtf8 _ IsUtf8-nil), tt)
