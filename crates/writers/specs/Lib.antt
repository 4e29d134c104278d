pub mod OnFormatter
pub mod OnFormatterLaws
pub mod StringWriter
pub mod StringWriterLaws
pub mod TextBuffer
pub mod TextBufferLaws
pub mod Texts
pub mod Writer
