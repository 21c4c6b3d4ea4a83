-- What the reader of a frame line answers, of what the line says: the working side, a frame as one number. Assumes nothing.
use Rattle.std.specs.Prelude.{cond, eqb, length}
use Rattle.bits.specs.Frame.{frame_bytes}
use Rattle.bits.specs.Word.{word_of}
use Rattle.frame_lines.specs.declared.FrameLine.{FrameLine}
use Rattle.frame_lines.specs.declared.FrameLine.TheVariants.{Frame, NotEightBytes, IllFormed}
use Rattle.frame_lines.specs.Meaning.{FrameMeaning, frame, ill_formed_spec}

-- the answer that tells it: eight bytes as one number, byte 0 lowest
abbrev pub told : FrameMeaning → FrameLine
told (frame i bytes) = cond (eqb (length bytes) frame_bytes) (Frame i (word_of bytes)) (NotEightBytes i)
told ill_formed_spec = IllFormed
