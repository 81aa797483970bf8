mod InputParts
