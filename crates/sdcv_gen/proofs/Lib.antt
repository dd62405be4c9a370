mod Drawing
mod Numbering
