-- What the answers say by number and value.
mod Says
